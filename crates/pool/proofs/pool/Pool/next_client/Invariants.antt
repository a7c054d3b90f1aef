use Rattle.std.proofs.Common.{ℕ, ◌<◌}
use Rattle.laws.specs.Calls.{Absent}
use Rattle.pool.specs.View.{view}
use Rattle.pool.proofs.pool.Pool.next_client.Given as goal

abbrev pub invariant-loop-client : goal.invariant-loop-client
invariant-loop-client l = (d : ℕ) → l.after < d → d < l.client → Absent (view l.self) d
