use Rattle.std.proofs.Common.{ap, inl, inr, arith, rules}
use Rattle.laws.specs.Calls.{refused}
use Rattle.pool.proofs.Views.{seen_with, refused_same}
use Rattle.pool.proofs.Starts.{start_step}
use Rattle.pool.proofs.pool.Pool.start.Goals as goal

pub returns-then-not-contains : goal.returns-then-not-contains
returns-then-not-contains c = λ m. (refused (search (inl, inr, rules, arith)))

pub returns-in_default : goal.returns-in_default
returns-in_default c =
    let b = c.args.self.now in
    let e = c.in_default.ensures.refused in
    let has = e.1 in
    λ m. (refused_same (ap (seen_with b b.members) e.0) (search (inl, inr, rules, arith)))

pub returns : goal.returns
returns c =
    let s = c.in-Ok.ensures.started in
    let none = s.none_before in
    λ m. (start_step m c.args.self.now c.start.new.self c.args.unit c.args.frames s (search (rules, arith)))
