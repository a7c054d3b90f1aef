-- A heap that keeps its records, as a map from owners to keys.
--
-- keys_in   the key of an owner, if it is in
use Rattle.std.specs.Prelude.{ℕ, Option}
use Rattle.heap.specs.Heaps.{keys}
use Rattle.heap.specs.declared.indexed.IndexedHeap.{IndexedHeap}

abbrev pub keys_in : {K : _} {n : _} {o : _} → IndexedHeap K n o → ℕ → Option K
keys_in h = keys h.records h.count
