-- Stacks without frames, and stacks whose frames are all free.
use Rattle.std.proofs.Common.{◌≡◌, ℕ, zero, suc, ◌+◌, ◌<◌, ◌≤◌, cond, ltb, leb, List, [], ◌∷◌, length, get_or, set, replicate, refl, ap, ◌∙◌, arith}
use Rattle.std.specs.List.{range_with_len}
use Rattle.std.proofs.lemmas.List.{get_or-set_same, get_or-set_other, get_or_past}
use Rattle.std.proofs.lemmas.List.Sums.{sum_by-set, get_or-le-sum_by}
use Rattle.std.proofs.lemmas.Bool.Decides.{nat_tests}
use Rattle.ledger.specs.Stacks.{pooled, Once, AllFree}
use Rattle.ledger.specs.Links.{down, empty, stack, together}
use Rattle.ledger.specs.declared.ledger.Ledger.{Ledger}
use Rattle.ledger.specs.declared.ledger.Stack.{Stack}
use Rattle.ledger.proofs.Sums.{summed_first}
use Rattle.ledger.proofs.Downs.{times, times_cons, stack_none}

-- frames linked each to the next
down_next : (below : List ℕ) (a n : ℕ) → ((f : ℕ) → a ≤ f → f < a + n → get_or below f 0 ≡ f + 1) → down below a n ≡ range_with_len a n
down_next below a zero h = refl
down_next below a (suc n) h =
    ap (λ l. a ∷ l) (ap (λ z. down below z n) (h a (omega arith) (omega arith)) ∙ down_next below (a + 1) n (λ f l u. h f (omega arith) (omega arith)))

times_counting : (f a n : ℕ) → times f (range_with_len a n) ≡ cond (leb a f) (cond (ltb f (a + n)) 1 0) 0
times_counting f a zero = grind (arith, nat_tests)
times_counting f a (suc n) = times_cons f a (range_with_len (a + 1) n) ∙ let r = times_counting f (a + 1) n in grind (arith, nat_tests)

times_pooled : (f F : ℕ) → times f (range_with_len 1 F) ≡ pooled F f
times_pooled f F = times_counting f 1 F ∙ grind (arith, nat_tests)

pub once_free : (t : ℕ → List ℕ) (n F : ℕ) → AllFree t F → Once t (suc n) F
once_free t n F h f =
    summed_first (λ o. times f (t o)) n (λ o l. ap (times f) (h.others o (λ z. omega arith))) ∙ (ap (times f) h.free ∙ times_pooled f F)

module _ (v : Ledger) (below : List ℕ) (F : ℕ) (none : v.frames ≡ 0) (links : (f : ℕ) → 1 ≤ f → f ≤ F → get_or below f 0 ≡ f + 1) where
  low : (o : ℕ) → (get_or v.stacks o empty).len ≡ 0
  low o = grind (arith, v.all, get_or-le-sum_by (λ s. s.len) v.stacks o empty, get_or_past v.stacks o empty)

  abbrev pub begun : List Stack
  begun = set v.stacks 0 (record { top = 1; len = F })

  owned : 0 < length v.stacks
  owned = omega (arith, v.owners)

  free : stack below begun 0 ≡ range_with_len 1 F
  unfolding stack
  free = ap (λ s. down below s.top s.len) (get_or-set_same v.stacks 0 _ empty owned) ∙ down_next below 1 F (λ f l u. links f l (omega arith))

  pub all_free : AllFree (stack below begun) F
  all_free = record { free = free; others = λ o d. stack_none below begun o (ap (λ s. s.len) (get_or-set_other v.stacks 0 o _ empty d) ∙ low o) }

  pub together_free : together begun ≡ F
  together_free = omega (arith, v.all, none, sum_by-set (λ s. s.len) v.stacks 0 (record { top = 1; len = F }) empty owned, low 0)

-- a table of one value has it at each place, and past its end
pub same_at : {A : Type 0} (a : A) (n i : ℕ) → get_or (replicate n a) i a ≡ a
same_at a zero i = refl
same_at a (suc n) zero = refl
same_at a (suc n) (suc i) = same_at a n i

pub blank_none : (below : List ℕ) (n o : ℕ) → stack below (replicate n empty) o ≡ []
blank_none below n o = stack_none below (replicate n empty) o (ap (λ s. s.len) (same_at empty n o))
