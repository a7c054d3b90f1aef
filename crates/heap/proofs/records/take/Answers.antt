use Rattle.std.proofs.Common.{◌≡◌, ◌-◌, sym, refl, ap, ◌∙◌, arith}
use Rattle.heap.specs.Heaps.{owner_at, place_of}
use Rattle.heap.proofs.Writes.{place_read}
use Rattle.heap.proofs.Members.{some_in, some_within}
use Rattle.heap.proofs.Swaps.{owners_swapped}
use Rattle.heap.proofs.Changes.{cut_keys}
use Rattle.heap.proofs.Parts.{heap_less}
use Rattle.heap.proofs.records.take.Goals as goal

pub returns-then-place-last : goal.returns-then-place-last
returns-then-place-last g c =
    let there = sym (c.if-not-contains.ensures) in
    let p = place_read c.args.records.now c.args.owner c.index-records-owner.result (some_within _ _ _ there) in
    let moved = owners_swapped _ _ _ _ c.args.count (omega arith) (omega arith) (λ e. omega arith) c.requires.0 c.swap_owners.ensures in
    let e = c.swap_owners.ensures.right ∙ (ap (owner_at c.args.records.now) p ∙ (some_in _ _ _ there).back) in
    record {
      heap = c.sift.ensures.heap;
      map = λ q. rw (← moved.1 q) (c.sift.ensures.map q ∙ cut_keys _ _ _ _ (omega arith) moved.0 e q);
      count = rw there (omega arith);
      long = c.sift.auto.records ∙ c.swap_owners.ensures.long;
    }

pub returns-else-place-last : goal.returns-else-place-last
returns-else-place-last g c =
    let xs = c.args.records.now in
    let n = c.args.count in
    let there = sym (c.if-not-contains.ensures) in
    let s = some_in _ _ _ there in
    let p = place_read xs c.args.owner c.index-records-owner.result (some_within _ _ _ there) in
    let z : n - 1 ≡ place_of xs c.args.owner = omega (arith, s.low, p, c.if-place-last.false) in
    record {
      heap = heap_less _ xs (n - 1) n (omega arith) c.requires;
      map = cut_keys xs (n - 1) n _ (omega (arith, s.low)) c.requires.0 (ap (owner_at xs) z ∙ s.back);
      count = rw there (omega (arith, s.low));
      long = refl;
    }
