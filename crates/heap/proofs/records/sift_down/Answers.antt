use Rattle.std.proofs.Common.{◌<◌, ◌∙◌, arith}
use Rattle.heap.proofs.Orders.{key_laws}
use Rattle.heap.proofs.Trees.{sink}
use Rattle.heap.proofs.Swaps.{owners_swapped, keys_swapped}
use Rattle.heap.proofs.records.sift_down.Goals as goal

pub loop-at-preserved : goal.loop-at-preserved
loop-at-preserved g c =
    let at = c.loop-at.invariant in
    let first = c.first_child-child.ensures in
    let apart : c.loop-at.at < c.first_child-child.result = omega (arith, first.below.under, first.below.deep) in
    let moved = owners_swapped _ _ _ _ c.args.count at.1 first.below.within (λ z. omega arith) at.0 c.swap_owners.ensures in (
      moved.0,
      first.below.within,
      sink (key_laws g.met.K.Order.total g.met.K.Order.chain) _ _ _ _ _ first c.if-leads_at.ensures (keys_swapped _ _ _ _ c.swap_owners.ensures) at.2,
      λ o. moved.1 o ∙ at.3 o,
    )
