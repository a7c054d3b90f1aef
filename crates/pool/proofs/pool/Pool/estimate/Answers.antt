use Rattle.std.proofs.Common.{refl}
use Rattle.pool.proofs.Views.{refused_exit}
use Rattle.pool.proofs.Tables.{member_held}
use Rattle.pool.proofs.Changes.{estimate_step}
use Rattle.pool.proofs.pool.Pool.estimate.Goals as goal

pub returns-in_err-member : goal.returns-in_err-member
returns-in_err-member c = λ m. (refused_exit _ _ c.from_residual.result c.from_residual.ensures.1 refl c.in_err-member.ensures)

pub invariant_of-self : goal.invariant_of-self
invariant_of-self c = record { held = member_held c.args.self.now c.set.new.self c.args.client _ c.set.ensures }

pub returns : goal.returns
returns c =
    let b = c.args.self.now in
    let found = c.in_ok-member.ensures in
    λ m. (estimate_step m b c.set.new.self c.args.client c.args.estimate c.in_ok-member.member _ c.set.ensures found.1 found.0 refl)
