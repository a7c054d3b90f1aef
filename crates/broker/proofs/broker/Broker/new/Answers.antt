use Rattle.laws.proofs.Guaranteed.{histories_keep_guarantees}
use Rattle.broker.specs.Bids.{bid_in}
use Rattle.broker.proofs.Lowest.{no_bids}
use Rattle.broker.proofs.broker.Broker.new.Goals as goal

pub invariant_of-result : goal.invariant_of-result
invariant_of-result g c = record { kept = rw c.new.ensures (no_bids (g.P.Price.meaning c.args.price) (bid_in c.new-2.result) c.new-2.ensures) }

pub returns-clause-guarantees : goal.returns-clause-guarantees
returns-clause-guarantees g c = histories_keep_guarantees (g.P.Price.meaning c.args.price) (g.met.P.Price.lawful c.args.price)
