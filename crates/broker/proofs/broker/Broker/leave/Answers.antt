use Rattle.std.proofs.Common.{refl}
use Rattle.std.proofs.lemmas.Result.{err_from_is_err_and}
use Rattle.broker.proofs.Lowest.{renewed}
use Rattle.broker.proofs.Others.{spared}
use Rattle.broker.proofs.Steps.{stepped}
use Rattle.broker.proofs.broker.Broker.leave.Goals as goal

pub invariant_of-self : goal.invariant_of-self
invariant_of-self g c = record { kept = λ d. spared c.args.self.now (c.in_err-frames.ensures _) d tt }

pub returns-in_err-frames : goal.returns-in_err-frames
returns-in_err-frames g c =
    let p = err_from_is_err_and c.from_residual.result c.from_residual.ensures.1 in
    rw (p.1, p.2) (stepped (g.met.P.Price.lawful _) (c.in_err-frames.ensures _) refl)

pub invariant_of-self-2 : goal.invariant_of-self-2
invariant_of-self-2 g c = record { kept = renewed c.renew.ensures (spared c.args.self.now (c.in_ok-frames.ensures _)) }

pub returns : goal.returns
returns g c = stepped (g.met.P.Price.lawful _) (c.in_ok-frames.ensures _) refl
