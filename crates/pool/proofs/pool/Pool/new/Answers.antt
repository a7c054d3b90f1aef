use Rattle.pool.proofs.Starts.{new_view}
use Rattle.pool.proofs.pool.Pool.new.Goals as goal

pub invariant_of-result : goal.invariant_of-result
invariant_of-result c = record { held = λ d _ _. c.new-2.ensures.stacks d }

pub returns : goal.returns
returns c = new_view c.new.result c.new-2.result c.new.ensures c.new-2.ensures.frames c.new-2.ensures.stacks
