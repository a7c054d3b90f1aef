use Rattle.std.proofs.Common.{rules}
use Rattle.broker.specs.Bids.{bid_in}
use Rattle.broker.specs.View.{meaning, view}
use Rattle.broker.proofs.Lowest.{lowest_told}
use Rattle.broker.proofs.broker.Broker.lowest_payer.Goals as goal

pub returns : goal.returns
returns g c = let b = c.args.self.now in lowest_told (meaning b) (view b) (bid_in b.bids) b.kept c.lowest.result c.map.result c.lowest.ensures (search rules)
