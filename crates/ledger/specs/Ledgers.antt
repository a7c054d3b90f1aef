-- A ledger's stacks, and what its calls do to them.
--
-- stack_of   an owner's stack, from the top down: 0 has the free one, 1 to 256 have theirs, any other number has none
-- Started    a ledger that had no frames has F of them, all free
-- MovesTop   the top frame of one owner's stack has moved onto another's, or nothing has changed, since the first owner
--            has no frame or there is no other to take it
use Rattle.std.specs.Prelude.{◌≡◌, ℕ, ◌≤◌, ◌≢◌, List, [], MatchOption, Option}
use Rattle.ledger.specs.Stacks.{AllFree, Moved}
use Rattle.ledger.specs.Links.{stack}
use Rattle.ledger.specs.declared.ledger.Ledger.{Ledger}

abbrev pub stack_of : Ledger → ℕ → List ℕ
stack_of l = stack l.below l.stacks

pub record Started (l m : Ledger) (F : ℕ) : Type 0 where
  pub none_before : l.frames ≡ 0
  pub frames : m.frames ≡ F
  pub all_free : AllFree (stack_of m) F

abbrev pub MovesTop : Ledger → Ledger → ℕ → ℕ → Option ℕ → Type 0
MovesTop l m from to r =
    MatchOption r ((m ≡ l) × (to ≤ 256 → from ≢ to → stack_of l from ≡ [])) (Moved (stack_of l) (stack_of m) from to)
