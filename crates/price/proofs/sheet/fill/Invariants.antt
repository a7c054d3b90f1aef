use Rattle.std.proofs.Common.{◌≡◌, ℕ, ◌+◌, ◌<◌, slice_index}
use Rattle.rules.specs.Prices.{taxed_bottom}
use Rattle.price.proofs.sheet.fill.Given as goal

abbrev pub invariant-loop-i : goal.invariant-loop-i
invariant-loop-i l = (k : ℕ) → k < l.i → slice_index l.sheet k ≡ taxed_bottom l.price.rate l.active (k + 1)
