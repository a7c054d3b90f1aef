use Rattle.std.proofs.Common.{refl}
use Rattle.std.proofs.lemmas.Result.{err_from_is_err_and}
use Rattle.laws.specs.Calls.{refused}
use Rattle.broker.proofs.Steps.{stepped}
use Rattle.broker.proofs.Clock.{clock_stepped, ticked_bids}
use Rattle.broker.proofs.broker.Broker.clock.Goals as goal

pub returns-in_err-clockable : goal.returns-in_err-clockable
returns-in_err-clockable g c =
    let p = err_from_is_err_and c.from_residual.result c.from_residual.ensures.1 in
    rw (p.1, p.2) (stepped (g.met.P.Price.lawful _) (refused c.in_err-clockable.ensures) refl)

pub invariant_of-self : goal.invariant_of-self
invariant_of-self g c = record { kept = ticked_bids c.drop_ended-dropped.new.self c.args.tick c.set_tick.ensures }

pub returns : goal.returns
returns g c = clock_stepped (g.met.P.Price.lawful _) c.in_ok-clockable.ensures.0 c.drop_ended-dropped.ensures c.set_tick.ensures refl
