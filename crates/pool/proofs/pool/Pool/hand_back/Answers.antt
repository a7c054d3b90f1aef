use Rattle.std.proofs.Common.{refl, ap, arith}
use Rattle.pool.specs.View.{view}
use Rattle.pool.proofs.Records.{member_numbered}
use Rattle.pool.proofs.Views.{seen_with, refused_exit, refused_same}
use Rattle.pool.proofs.Changes.{hand_back_step, refused_hand_back, refused_empty}
use Rattle.pool.proofs.pool.Pool.hand_back.Goals as goal

pub returns-in_err-caller : goal.returns-in_err-caller
returns-in_err-caller c = λ m. (refused_exit _ _ c.from_residual.result c.from_residual.ensures.1 refl (refused_hand_back m (view c.args.self.now) c.args.client _ c.in_err-caller.ensures))

pub returns-in_default : goal.returns-in_default
returns-in_default c =
    let b = c.args.self.now in
    let found = c.in_ok-caller.ensures in
    let (same, empty) = c.in_default.ensures.moved in
    let n = member_numbered b.members c.args.client c.in_ok-caller.field-0 found.1 in
    λ m. (refused_same (ap (seen_with b b.members) same)
    (refused_empty m b c.args.client c.in_ok-caller.field-0 found.1 (empty (omega arith) (λ z. omega (arith, n, z))) found.0))

pub returns : goal.returns
returns c =
    let found = c.in_ok-caller.ensures in
    λ m. (hand_back_step m c.args.self.now c.move_top.new.self c.args.client c.in-Some.frame c.in_ok-caller.field-0 found.1 c.in-Some.ensures.moved c.move_top.ensures.frames found.0)
