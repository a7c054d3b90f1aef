use Rattle.std.proofs.Common.{arith}
use Rattle.ledger.proofs.Ledgers.{holding_few, owner_of_some}
use Rattle.ledger.proofs.Frees.{some_moved, going_on}
use Rattle.ledger.proofs.ledger.Ledger.release.Goals as goal

pub overflow_add-released : goal.overflow_add-released
overflow_add-released c =
    let v = c.args.self.now in
    let o = c.args.owner in
    let (pos, some) = some_moved _ _ _ _ _ c.loop-released-test.ensures c.move_top.ensures.moved in
    let left = (c.loop-released.invariant.2 pos).left in
    omega (arith, v.few, holding_few v o, owner_of_some v o)

pub loop-released-preserved : goal.loop-released-preserved
loop-released-preserved c =
    let moved = c.move_top.ensures.moved in
    let (pos, some) = some_moved _ _ _ _ _ c.loop-released-test.ensures moved in (
      omega (arith, c.move_top.ensures.frames),
      λ z. absurd (pos z),
      λ ne. going_on _ _ _ _ _ _ _ c.loop-released-test.ensures moved ne (c.loop-released.invariant.2 ne),
    )
