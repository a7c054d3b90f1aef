use Rattle.std.proofs.Common.{◌<◌, length, arith}
use Rattle.ledger.specs.Ledgers.{stack_of}
use Rattle.ledger.proofs.Moves.{kept, moved}
use Rattle.ledger.proofs.ledger.Ledger.move_top.Goals as goal

pub invariant_of-self : goal.invariant_of-self
invariant_of-self c =
    let v = c.args.self.now in
    let some : 0 < length (stack_of v c.args.from) = omega arith in
    let (owners, links, all, once) = kept v c.args.from some c.args.to (omega arith) c.if-from-to.false in
    record { few = v.few; owners = owners; links = links; all = all; once = once }

pub returns-clause-moved : goal.returns-clause-moved
returns-clause-moved c =
    let some : 0 < length (stack_of c.args.self.now c.args.from) = omega arith in
    moved c.args.self.now c.args.from some c.args.to (omega arith) c.if-from-to.false
