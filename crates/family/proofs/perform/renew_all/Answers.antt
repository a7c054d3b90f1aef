use Rattle.std.proofs.Common.{subst, arith}
use Rattle.std.proofs.lemmas.Option.{slice_get-get_or}
use Rattle.family.specs.Orders.{Renewed}
use Rattle.family.proofs.Performing.{renewed_none, renewed_one}
use Rattle.family.proofs.perform.renew_all.Goals as goal

pub loop-broker-init : goal.loop-broker-init
loop-broker-init g c = renewed_none c.args.brokers.now

pub loop-broker-preserved : goal.loop-broker-preserved
loop-broker-preserved g c =
    renewed_one _ _ c.loop-broker.brokers _ c.renew.new.self (slice_get-get_or c.loop-broker.brokers c.loop-broker.broker-index c.broker-item.result (omega (arith, c.loop-broker.auto.brokers))) c.renew.ensures.view c.renew.ensures.price c.loop-broker.invariant

pub returns : goal.returns
returns g c = subst (λ k. Renewed k c.args.brokers.now c.loop-broker.brokers) (omega arith) c.loop-broker.invariant
