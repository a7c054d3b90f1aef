use Rattle.std.proofs.Common.{refl}
use Rattle.pool.proofs.Views.{refused_exit}
use Rattle.pool.proofs.Tables.{admit_step, member_held}
use Rattle.pool.proofs.pool.Pool.admit.Goals as goal

pub returns-in_err-admissible : goal.returns-in_err-admissible
returns-in_err-admissible c = λ m. (refused_exit _ _ c.from_residual.result c.from_residual.ensures.1 refl c.in_err-admissible.ensures)

pub invariant_of-self : goal.invariant_of-self
invariant_of-self c = record { held = member_held c.args.self.now c.set.new.self c.args.asked.client _ c.set.ensures }

pub returns : goal.returns
returns c = λ m. (admit_step m c.args.self.now c.args.asked c.set.new.self _ c.set.ensures refl c.in_ok-admissible.ensures.0)
