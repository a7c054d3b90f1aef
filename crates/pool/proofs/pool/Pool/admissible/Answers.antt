use Rattle.std.proofs.Common.{◌+◌, ◌<◌, rules, arith}
use Rattle.laws.specs.ByNumber.{total}
use Rattle.laws.specs.Broker.{present}
use Rattle.laws.specs.Division.{minimum_of}
use Rattle.pool.specs.View.{view}
use Rattle.pool.proofs.Records.{few_minimums}
use Rattle.pool.proofs.Tables.{minimums_are}
use Rattle.pool.proofs.pool.Pool.admissible.Goals as goal

pub overflow_add-minimums : goal.overflow_add-minimums
overflow_add-minimums c = record { fits = omega (arith, few_minimums c.args.self.now.members, c.minimums.ensures, c.args.self.now.members.summed) }

pub returns-then-minimums-minimum : goal.returns-then-minimums-minimum
returns-then-minimums-minimum c =
    let b = c.args.self.now in
    let over : b.ledger.frames < total (minimum_of (present (view b))) + c.args.asked.minimum = omega (arith, minimums_are b) in
    search rules
