use Rattle.family.specs.Orders.{Renewed}
use Rattle.family.proofs.perform.renew_all.Given as goal

abbrev pub invariant-loop-broker : goal.invariant-loop-broker
invariant-loop-broker g l = Renewed l.broker-index l.initial.brokers l.brokers
