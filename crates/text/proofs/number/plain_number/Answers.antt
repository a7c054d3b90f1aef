use Rattle.std.proofs.Common.{arith}
use Rattle.std.proofs.lemmas.List.{take_all}
use Rattle.text.proofs.PlainNumbers.{number_read}
use Rattle.text.proofs.number.plain_number.Goals as goal

pub returns : goal.returns
returns c =
    let all = take_all c.loop-b.b-index c.args.bytes.now c.loop-b-test.false in
    rw c.ok.ensures.value (number_read c.args.bytes.now _ c.try_from.result (rw all at c.loop-b.invariant.0) (grind arith) (λ zero. grind arith) (rw all at c.loop-b.invariant.1) c.try_from.ensures)
