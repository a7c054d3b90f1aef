-- Places of lists.
use Rattle.std.proofs.Common.{◌≡◌, ℕ, ◌<◌, ◌≢◌, List, length, map, set, Some, sym, ap, ◌∙◌, subst, inl, inr, arith}
use Rattle.std.specs.List.{slice_get}
use Rattle.std.specs.Option.{option_map}
use Rattle.std.proofs.lemmas.List.{length-set, get_or-set_same, get_or-set_other}
use Rattle.std.proofs.lemmas.Option.{gets, same_Some, slice_get-map, slice_get_cases, slice_get_within}
use Rattle.laws.proofs.Puts.{each_but}

module _ {X : Type 0} where
  nth_set_same : (xs : List X) (i : ℕ) (x y : X) → slice_get xs i ≡ Some y → slice_get (set xs i x) i ≡ Some x
  nth_set_same xs i x y e = grind (arith, gets, slice_get_within, length-set, get_or-set_same)

  nth_set_other : (xs : List X) (i j : ℕ) (x : X) → j ≢ i → slice_get (set xs i x) j ≡ slice_get xs j
  nth_set_other xs i j x ne = grind (arith, gets, length-set, get_or-set_other)

  pub within_get : (xs : List X) (i : ℕ) → i < length xs → (x : X) × (slice_get xs i ≡ Some x)
  within_get xs i h = elim ((slice_get_cases xs i).1) [ inl (x, l, e, d) ↦ (x, e) | inr (l, e) ↦ absurd (omega arith) ]

module _ {A B : Type 0} where
  pub get_mapped : (f : A → B) (xs : List A) (i : ℕ) (x : A) → slice_get xs i ≡ Some x → slice_get (map f xs) i ≡ Some (f x)
  get_mapped f xs i x e = slice_get-map f xs i ∙ ap (option_map f) e

  -- what stands at each place of one list has beside it what stands there in another
  abbrev pub Paired : (ℕ → A → B → Type 0) → List A → List B → Type 0
  Paired Q xs ys = (i : ℕ) (x : A) → slice_get xs i ≡ Some x → (y : B) × (slice_get ys i ≡ Some y) × Q i x y

  -- one of these is replaced
  pub paired_set : (Q R : ℕ → A → B → Type 0) (xs : List A) (ys : List B) (j : ℕ) (y z : B) → Paired Q xs ys → slice_get ys j ≡ Some y →
      ((x : A) → slice_get xs j ≡ Some x → Q j x y → R j x z) → ((i : ℕ) (x : A) (w : B) → i ≢ j → Q i x w → R i x w) → Paired R xs (set ys j z)
  paired_set Q R xs ys j y z paired at here off =
      each_but j (λ i. (x : A) → slice_get xs i ≡ Some x → (w : B) × (slice_get (set ys j z) i ≡ Some w) × R i x w)
      (λ x e. let (w, there, q) = paired j x e in (z, nth_set_same ys j z y at, here x e (subst (Q j x) (same_Some w y (sym there ∙ at)) q)))
      (λ i ne x e. let (w, there, q) = paired i x e in (w, nth_set_other ys j i z ne ∙ there, off i x w ne q))
