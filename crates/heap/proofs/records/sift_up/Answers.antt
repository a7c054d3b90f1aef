use Rattle.std.proofs.Common.{◌∙◌, arith}
use Rattle.heap.proofs.Orders.{key_laws}
use Rattle.heap.proofs.Trees.{rise}
use Rattle.heap.proofs.Swaps.{owners_swapped, keys_swapped}
use Rattle.heap.proofs.records.sift_up.Goals as goal

pub loop-at-preserved : goal.loop-at-preserved
loop-at-preserved g c =
    let at = c.loop-at.invariant in
    let moved = owners_swapped _ _ _ _ c.args.count (omega arith) at.1 (λ z. omega arith) at.0 c.swap_owners.ensures in (
      moved.0,
      omega arith,
      rise (key_laws g.met.K.Order.total g.met.K.Order.chain) _ _ c.loop-at.at _ (omega arith) at.1 c.if-leads_at.ensures (keys_swapped _ _ _ _ c.swap_owners.ensures) at.2,
      λ o. moved.1 o ∙ at.3 o,
    )
