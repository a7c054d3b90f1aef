use Rattle.heap.proofs.indexed.IndexedHeap.put.Goals as goal

pub invariant_of-self : goal.invariant_of-self
invariant_of-self g c = record { heap = c.put-self.ensures.heap }

pub returns : goal.returns
returns g c = c.put-self.ensures.map
