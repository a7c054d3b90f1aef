use Rattle.std.proofs.Common.{refl, inl, arith}
use Rattle.std.proofs.lemmas.Bool.Decides.{nat_tests}
use Rattle.laws.specs.Calls.{refused, accepted, delivered}
use Rattle.pool.proofs.pool.Pool.close.Goals as goal

pub returns-then-ne : goal.returns-then-ne
returns-then-ne c = λ m. (refused (inl ((λ e. grind (arith, nat_tests, c.if-ne.ensures, e)), refl)))

pub returns : goal.returns
returns c = λ m. (accepted ((λ differ. grind (arith, nat_tests, c.if-ne.ensures, differ)), tt) delivered)
