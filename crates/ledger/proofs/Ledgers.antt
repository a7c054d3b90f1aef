-- What a caller knows of a ledger's stacks besides what the calls say.
use Rattle.std.proofs.Common.{◌≡◌, ℕ, ◌<◌, ◌≤◌, [], length, arith}
use Rattle.std.proofs.lemmas.List.Sums.{get_or-le-sum_by}
use Rattle.ledger.specs.Links.{empty}
use Rattle.ledger.specs.Ledgers.{stack_of}
use Rattle.ledger.specs.declared.ledger.Ledger.{Ledger}
use Rattle.ledger.proofs.Downs.{length_stack, stack_past}

module _ (l : Ledger) where
  pub few_frames : l.frames ≤ 4096
  few_frames = l.few

  pub holding_few : (o : ℕ) → o < 257 → length (stack_of l o) ≤ l.frames
  holding_few o h = omega (arith, l.all, length_stack l.below l.stacks o, get_or-le-sum_by (λ s. s.len) l.stacks o empty (omega (arith, h, l.owners)))

  -- a number that is no owner's has no stack
  pub no_owner : (o : ℕ) → 257 ≤ o → stack_of l o ≡ []
  no_owner o h = stack_past l.below l.stacks o (omega (arith, h, l.owners))

  -- who has a frame is an owner
  pub owner_of_some : (o : ℕ) → 0 < length (stack_of l o) → o < 257
  owner_of_some o h = grind (arith, no_owner o)
