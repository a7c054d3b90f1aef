use Rattle.family.proofs.Performing.{Sofar}
use Rattle.family.proofs.perform.perform_all.Given as goal

abbrev pub invariant-loop-i : goal.invariant-loop-i
invariant-loop-i g l = Sofar l.fn.brokers l.orders l.initial.outcomes l.i l.brokers l.outcomes
