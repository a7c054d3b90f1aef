-- The ends of estimates, as the keys of a heap.
--
-- leads    one end comes no later than another
-- tick_of  the tick of an end, if there is one
-- end_of   the tick at which a client's estimate ends, if the heap has it
use Rattle.std.specs.Prelude.{ℕ, Bool, nat_le, Option}
use Rattle.std.specs.Option.{option_map}
use Rattle.heap.specs.declared.indexed.IndexedHeap.{IndexedHeap}
use Rattle.heap.specs.Indexed.{keys_in}
use Rattle.pool.specs.declared.ends.End.{End}

abbrev pub leads : End → End → Bool
leads x y = nat_le x.tick y.tick

abbrev pub tick_of : Option End → Option ℕ
tick_of e = option_map (λ x. x.tick) e

abbrev pub end_of : {n : _} {o : _} → IndexedHeap End n o → ℕ → Option ℕ
end_of x c = tick_of (keys_in x c)
