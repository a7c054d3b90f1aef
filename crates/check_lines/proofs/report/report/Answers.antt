use Rattle.std.proofs.Common.{[], Ok, Err, refl, arith}
use Rattle.std.proofs.KnownBytes.{Appends-nil}
use Rattle.std.proofs.lemmas.List.{append-nil}
use Rattle.events.proofs.AtLine.{ok_at_line, err_at_line}
use Rattle.check_lines.specs.Tallies.{good, bad}
use Rattle.check_lines.proofs.SoFar.{begun, done, one_more}
use Rattle.check_lines.proofs.report.report.Goals as goal

pub loop-line-init : goal.loop-line-init
loop-line-init g c =
    rw (c.into_iter-line-iterator.ensures.into_iter_gives, c.new-line-items.ensures) (begun c.args.input.now _)

pub loop-line-preserved-in-Ok : goal.loop-line-preserved-in-Ok
loop-line-preserved-in-Ok g c =
    let read = ok_at_line _ _ _ c.in-Ok.ensures in
    one_more _ _ _ _ [] _ _ _ _ _ (Ok c.in-Ok.field-0) c.loop-line.invariant c.in-Some.ensures.steps (c.in-Some.ensures.goes.on tt).2 (rw read at c.read.ensures.decided) refl (Appends-nil _)
    (λ line printed seen n v so_far. (rw append-nil (good so_far c.in-Ok.field-0 v), omega (arith, c.loop-line.invariant.fewer)))

pub loop-line-preserved : goal.loop-line-preserved
loop-line-preserved g c =
    let (read, number) = err_at_line _ _ _ c.in-Err.ensures in
    one_more _ _ _ _ _ _ _ _ _ _ (Err c.in-Err.fault.refusal) c.loop-line.invariant c.in-Some.ensures.steps (c.in-Some.ensures.goes.on tt).2 (rw read at c.read.ensures.decided) refl c.in_ok-print-in-Err.ensures
    (λ line printed seen n v so_far. (rw (number, n) (bad so_far c.in-Err.fault.refusal v), omega (arith, c.loop-line.invariant.fewer)))

pub returns : goal.returns
returns g c = done _ _ _ _ _ _ _ c.loop-line.invariant c.in-None.ensures.steps c.in_ok-print.ensures
