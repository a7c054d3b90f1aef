use Rattle.laws.specs.ByNumber.{total}
use Rattle.laws.specs.Calls.{ends}
use Rattle.broker.specs.View.{view, DropsSoFar}
use Rattle.broker.proofs.broker.Broker.drop_ended.Given as goal

abbrev pub invariant-loop-client : goal.invariant-loop-client
invariant-loop-client g l = DropsSoFar l.tick l.initial.self l.dropped l.self

abbrev pub decreases-loop-client : goal.decreases-loop-client
decreases-loop-client g l = total (λ c. ends l.tick ((view l.self).clients c))
