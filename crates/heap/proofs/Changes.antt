-- What a new key, one owner more and one owner less leave of the map and of the order.
use Rattle.std.proofs.Common.{◌≡◌, ℕ, ◌+◌, ◌<◌, false, is_some, eqb, List, length, Some, None, Option, refl, ◌∙◌, arith}
use Rattle.std.specs.Map.{update}
use Rattle.std.proofs.lemmas.Bool.{cases_eq}
use Rattle.std.proofs.lemmas.Bool.Decides.{nat_tests}
use Rattle.heap.specs.declared.records.Record.{Record}
use Rattle.heap.specs.Heaps.{owner_at, place_of, key_at, IsIndexed, keys}
use Rattle.heap.specs.Steps.{OwnerPlaced}
use Rattle.heap.proofs.Members.{In, in_at, keys_in, keys_out, none_out, same_key}
use Rattle.heap.proofs.Room.{room}
use Rattle.heap.proofs.Writes.{Rekeyed}

module _ {K : Type 0} where
  by_owner : (f g : ℕ → Option K) (o : ℕ) (w : Option K) → g o ≡ w → ((q : ℕ) → (q ≡ o → ⊥) → g q ≡ f q) → (q : ℕ) → g q ≡ update eqb f o w q
  by_owner f g o w here others q = let other = others q in grind (arith, nat_tests)

  -- another key
  module _ (xs ys : List (Record K)) (n o : ℕ) (k : K) (r : Rekeyed xs ys o k) where
    pub rekeyed_indexed : IsIndexed xs n → IsIndexed ys n
    rekeyed_indexed x = (omega (arith, r.long, x.0), λ i h. omega (arith, r.long, r.owners i, x.1 i h), λ i h. rw (r.owners, r.places) (x.2 i h))

    pub rekeyed_keys : In xs n o → (q : ℕ) → keys ys n q ≡ update eqb (keys xs n) o (Some k) q
    rekeyed_keys s =
        by_owner (keys xs n) (keys ys n) o (Some k) (keys_in ys n o (grind (arith, r.places o, r.owners)) ∙ r.key) (λ q d. same_key xs ys n n q (λ s. grind (arith, r.places q, r.owners)) (λ s. grind (arith, r.places q, r.owners)) (r.keys q d))

    pub rekeyed_apart : IsIndexed xs n → (i : ℕ) → i < n → (i ≡ place_of xs o → ⊥) → key_at ys i ≡ key_at xs i
    rekeyed_apart x i h d = grind (arith, r.owners i, r.keys (owner_at xs i), x.2 i)

    -- one owner more, at the end
    module _ (zs : List (Record K)) (s : OwnerPlaced ys zs n o) (x : IsIndexed xs n) (ho : o < length xs) (none : is_some (keys xs n o) ≡ false) where
      owner_is : (i : ℕ) → i < n → owner_at zs i ≡ owner_at xs i
      owner_is i h = s.owners i (λ e. omega arith) ∙ r.owners i

      not_new : (i : ℕ) → i < n → owner_at xs i ≡ o → ⊥
      not_new i h e = none_out xs n o x none (in_at xs n i o x h e)

      pub added_indexed : IsIndexed zs (n + 1)
      added_indexed = (
        omega (arith, room xs n o x ho none, r.long, s.long),
        λ i h. grind (arith, cases_eq i n, s.owner, owner_is i, x.1 i, r.long, s.long),
        λ i h. grind (arith, cases_eq i n, s.owner, s.place, owner_is i, not_new i, s.places, r.places, x.2 i),
      )

      added_there : (q : ℕ) → In xs n q → In zs (n + 1) q
      added_there q t = grind (arith, owner_is (place_of xs q), added_indexed.2)

      added_back : (q : ℕ) → (q ≡ o → ⊥) → In zs (n + 1) q → In xs n q
      added_back q d t = grind (arith, cases_eq (place_of zs q) n, s.owner, owner_is (place_of zs q), x.2)

      pub added_keys : (q : ℕ) → keys zs (n + 1) q ≡ update eqb (keys xs n) o (Some k) q
      added_keys =
          by_owner (keys xs n) (keys zs (n + 1)) o (Some k) (keys_in zs (n + 1) o (in_at zs (n + 1) n o added_indexed (omega arith) s.owner) ∙ (s.keys o ∙ r.key)) (λ q d. same_key xs zs n (n + 1) q (added_there q) (added_back q d) (s.keys q ∙ r.keys q d))

      pub added_apart : (i : ℕ) → i < n → key_at zs i ≡ key_at xs i
      added_apart i h = rw (owner_is i h, s.keys) (r.keys (owner_at xs i) (not_new i h))

  -- one owner less: the last
  module _ (xs : List (Record K)) (m n o : ℕ) (one : n ≡ m + 1) (x : IsIndexed xs n) (e : owner_at xs m ≡ o) where
    pub cut_keys : (q : ℕ) → keys xs m q ≡ update eqb (keys xs n) o None q
    cut_keys =
        by_owner (keys xs n) (keys xs m) o None (keys_out xs m o (λ s. omega (arith, s.low, rw e at (x.2 m (omega arith))))) (λ q d. same_key xs xs n m q (λ s. grind (arith, cases_eq (place_of xs q) m)) (λ s. grind arith) refl)
