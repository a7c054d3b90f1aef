use Rattle.std.proofs.Common.{List, ◌∷◌, ◌-◌, length}
use Rattle.std.specs.Io.KnownBytes.{Appends}
use Rattle.session.specs.declared.printed.Reported.{Reported}
use Rattle.session.specs.declared.printed.Reported.TheVariants.{Free}
use Rattle.session.specs.Session.{view}
use Rattle.session.specs.Printed.{reported_line}
use Rattle.session.specs.Input.{lines}
use Rattle.session.proofs.Inputs.{Upto}
use Rattle.session.proofs.session.Session.print_report.Given as goal

abbrev pub invariant-loop-client : goal.invariant-loop-client
invariant-loop-client g l =
    (rs : List Reported) × Upto l.self l.after rs × Appends (g.W.Write.contents l.fn.out) (g.W.Write.contents l.out) (lines reported_line (Free (length (view l.self).free) ∷ rs))

abbrev pub decreases-loop-client : goal.decreases-loop-client
decreases-loop-client g l = 257 - l.after
