use Rattle.std.proofs.Common.{refl, arith}
use Rattle.heap.proofs.Members.{empty_keys}
use Rattle.heap.proofs.indexed.IndexedHeap.new.Goals as goal

pub invariant_of-result : goal.invariant_of-result
invariant_of-result g c = record { heap = ((omega arith, λ i l. absurd (omega arith), λ i l. absurd (omega arith)), λ k b. absurd (omega (arith, b))) }

pub returns : goal.returns
returns g c = λ o. empty_keys _ _ o refl
