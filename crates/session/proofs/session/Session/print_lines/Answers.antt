use Rattle.std.proofs.Common.{[], refl}
use Rattle.std.proofs.KnownBytes.{Appends-nil}
use Rattle.std.proofs.lemmas.Result.{err_from_is_err_and}
use Rattle.session.specs.Printed.{printed_line}
use Rattle.session.proofs.Inputs.{begun, one_more, value_more}
use Rattle.session.proofs.session.Session.print_lines.Goals as goal

pub loop-line-init : goal.loop-line-init
loop-line-init g c =
    rw (c.into_iter-line-iterator.ensures.into_iter_gives, c.new-line-items.ensures) ([], begun c.args.self.now c.args.input.now, Appends-nil _)

pub loop-line-preserved : goal.loop-line-preserved
loop-line-preserved g c =
    let (all, through, written) = c.loop-line.invariant in
    (_, one_more through c.in-Some.ensures.steps (c.in-Some.ensures.goes.on tt).2 refl c.line.ensures, value_more printed_line _ _ _ all _ written c.in_ok-print.ensures)

pub returns-in_err-print-clause-err : goal.returns-in_err-print-clause-err
returns-in_err-print-clause-err g c =
    let p = err_from_is_err_and c.from_residual.result c.from_residual.ensures.1 in
    rw p.1 (_, _, (one_more c.loop-line.invariant.1 c.in-Some.ensures.steps (c.in-Some.ensures.goes.on tt).2 refl c.line.ensures).performed)
