use Rattle.std.proofs.Common.{refl}
use Rattle.std.proofs.lemmas.Result.{err_from_is_err_and}
use Rattle.laws.specs.Calls.{refused}
use Rattle.broker.proofs.Asks.{granted_some, grant_step, grant_opens}
use Rattle.broker.proofs.Others.{asked_bids}
use Rattle.broker.proofs.Steps.{stepped}
use Rattle.broker.proofs.broker.Broker.grant.Goals as goal

pub returns-in_err-from-clause-step : goal.returns-in_err-from-clause-step
returns-in_err-from-clause-step g c =
    let p = err_from_is_err_and c.from_residual.result c.from_residual.ensures.1 in
    rw (p.1, p.2) (stepped (g.met.P.Price.lawful _) (refused c.in_err-from.ensures) refl)

pub unwrap-slip-requires : goal.unwrap-slip-requires
unwrap-slip-requires g c = granted_some _ refl c.grant.ensures c.in_ok-from.ensures.1

pub invariant_of-self : goal.invariant_of-self
invariant_of-self g c =
    let step = grant_step refl (rw c.unwrap-slip.ensures at c.grant.ensures) c.in_ok-from.ensures in
    record { kept = asked_bids c.args.self.now step c.renew.ensures c.renew-2.ensures }

pub returns-clause-step : goal.returns-clause-step
returns-clause-step g c = stepped (g.met.P.Price.lawful _) (grant_step refl (rw c.unwrap-slip.ensures at c.grant.ensures) c.in_ok-from.ensures) refl

pub returns-clause-opens : goal.returns-clause-opens
returns-clause-opens g c = grant_opens (rw c.unwrap-slip.ensures at c.grant.ensures) c.in_ok-from.ensures.1.1
