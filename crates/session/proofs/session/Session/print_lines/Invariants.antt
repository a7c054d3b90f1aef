use Rattle.std.proofs.Common.{List}
use Rattle.std.specs.Io.KnownBytes.{Appends}
use Rattle.session.specs.declared.printed.Printed.{Printed}
use Rattle.session.specs.Printed.{printed_line}
use Rattle.session.specs.Input.{lines}
use Rattle.session.proofs.Inputs.{Through}
use Rattle.session.proofs.session.Session.print_lines.Given as goal

abbrev pub invariant-loop-line : goal.invariant-loop-line
invariant-loop-line g l =
    (all : List Printed) × Through l.fn.self l.input l.number l.line-iterator.rest.now all l.self × Appends (g.W.Write.contents l.fn.out) (g.W.Write.contents l.out) (lines printed_line all)
