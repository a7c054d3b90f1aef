use Rattle.std.proofs.Common.{None, refl, arith}
use Rattle.pool.proofs.Records.{member_numbered}
use Rattle.pool.proofs.Views.{refused_exit}
use Rattle.pool.proofs.Tables.{set_held}
use Rattle.pool.proofs.Changes.{leave_step}
use Rattle.pool.proofs.pool.Pool.leave.Goals as goal

pub returns-in_err-caller : goal.returns-in_err-caller
returns-in_err-caller c = λ m. (refused_exit _ _ c.from_residual.result c.from_residual.ensures.1 refl c.in_err-caller.ensures)

pub invariant_of-self : goal.invariant_of-self
invariant_of-self c =
    let b = c.args.self.now in
    let n = member_numbered b.members c.args.client c.in_ok-caller.field-0 c.in_ok-caller.ensures.1 in
    let v = c.release-frames.ensures.freed (λ z. omega (arith, n, z)) in
    record { held = set_held b c.set.new.self c.release-frames.new.self c.args.client None c.set.ensures (λ _. v.emptied) v.others }

pub returns : goal.returns
returns c =
    let b = c.args.self.now in
    let l = c.release-frames in
    λ m. (leave_step m b c.set.new.self l.new.self c.args.client l.result c.in_ok-caller.field-0 c.set.ensures c.in_ok-caller.ensures.1 l.ensures.freed l.ensures.frames c.in_ok-caller.ensures.0)
