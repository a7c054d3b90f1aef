use Rattle.std.proofs.Common.{refl}
use Rattle.broker.proofs.Others.{admitted_bids}
use Rattle.broker.proofs.Steps.{stepped}
use Rattle.broker.proofs.broker.Broker.admit.Goals as goal

pub invariant_of-self : goal.invariant_of-self
invariant_of-self g c = record { kept = admitted_bids c.args.self.now (c.admit.ensures _) }

pub returns : goal.returns
returns g c = stepped (g.met.P.Price.lawful _) (c.admit.ensures _) refl
