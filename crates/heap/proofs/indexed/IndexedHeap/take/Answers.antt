use Rattle.heap.proofs.indexed.IndexedHeap.take.Goals as goal

pub invariant_of-self : goal.invariant_of-self
invariant_of-self g c = record { heap = c.take-self.ensures.heap }

pub returns : goal.returns
returns g c = c.take-self.ensures.map
