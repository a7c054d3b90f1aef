-- Bids in an order from the lowest on.
--
-- leads   one bid ranks no higher than another
use Rattle.std.specs.Prelude.{Bool, not}
use Rattle.rules.specs.Rank.{above}
use Rattle.price.specs.declared.bid.ValidBid.{ValidBid}

abbrev pub leads : ValidBid → ValidBid → Bool
leads x y = not (above x.bid y.bid)
