use Rattle.std.proofs.Common.{◌≡◌, ℕ, ◌-◌, ◌<◌}
use Rattle.heap.specs.Heaps.{IsIndexed, keys, key_at, none_first}
use Rattle.heap.specs.Steps.{Sinks}
use Rattle.heap.proofs.records.sift_down.Given as goal

abbrev pub invariant-loop-at : goal.invariant-loop-at
invariant-loop-at g l = IsIndexed l.records l.count × (l.at < l.count) × Sinks (none_first g.K.Order.leads) (key_at l.records) l.at l.count × ((o : ℕ) → keys l.records l.count o ≡ keys l.initial.records l.count o)

abbrev pub decreases-loop-at : goal.decreases-loop-at
decreases-loop-at g l = l.count - l.at
