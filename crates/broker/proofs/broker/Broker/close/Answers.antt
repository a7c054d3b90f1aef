use Rattle.std.proofs.Common.{refl}
use Rattle.broker.proofs.Others.{spared}
use Rattle.broker.proofs.Steps.{stepped}
use Rattle.broker.proofs.broker.Broker.close.Goals as goal

pub invariant_of-self : goal.invariant_of-self
invariant_of-self g c = record { kept = λ d. spared c.args.self.now (c.close.ensures _) d tt }

pub returns : goal.returns
returns g c = stepped (g.met.P.Price.lawful _) (c.close.ensures _) refl
