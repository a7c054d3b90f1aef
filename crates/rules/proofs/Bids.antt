-- Bids as plain values.
use Rattle.std.proofs.Common.{◌≡◌}
use Rattle.std.proofs.Props.{props}
use Rattle.rules.specs.Rank.{Bid}

-- two bids are the same in one way at most
pub Bid-set : (a b : Bid) → IsProp (a ≡ b)
Bid-set a b = hlevel props
