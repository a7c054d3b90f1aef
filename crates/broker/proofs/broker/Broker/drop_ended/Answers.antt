use Rattle.std.proofs.Common.{refl, arith}
use Rattle.pool.proofs.Clocks.{few_end}
use Rattle.broker.specs.View.{view}
use Rattle.broker.proofs.Clock.{all_dropped, dropping_one, dropping_falls, dropped_bids}
use Rattle.broker.proofs.broker.Broker.drop_ended.Goals as goal

pub invariant_of-self : goal.invariant_of-self
invariant_of-self g c = record { kept = dropped_bids c.loop-client.self c.in-Some.ensures c.renew.ensures }

pub overflow_add-dropped : goal.overflow_add-dropped
overflow_add-dropped g c = omega (arith, c.loop-client.invariant.many.count, few_end c.args.tick (view c.args.self.now).clients)

pub loop-client-smaller : goal.loop-client-smaller
loop-client-smaller g c = dropping_falls c.in-Some.ensures

pub loop-client-preserved : goal.loop-client-preserved
loop-client-preserved g c = dropping_one c.loop-client.invariant c.in-Some.ensures refl

pub returns : goal.returns
returns g c = all_dropped c.loop-client.invariant refl c.in_default.ensures
