use Rattle.broker.specs.Bids.{bid_in}
use Rattle.broker.proofs.Lowest.{no_bids}
use Rattle.broker.proofs.broker.Broker.renew.Goals as goal

pub invariant_of-self : goal.invariant_of-self
invariant_of-self g c = record { kept = rw c.new-self.ensures (no_bids (g.P.Price.meaning c.args.self.now.price) (bid_in c.new-self-2.result) c.new-self-2.ensures) }
