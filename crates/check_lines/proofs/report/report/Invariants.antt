use Rattle.check_lines.proofs.SoFar.{SoFar}
use Rattle.check_lines.proofs.report.report.Given as goal

abbrev pub invariant-loop-line : goal.invariant-loop-line
invariant-loop-line g l = SoFar l.input (g.W.Write.contents l.fn.out) l.tally l.line-iterator.rest.now (g.W.Write.contents l.out)
