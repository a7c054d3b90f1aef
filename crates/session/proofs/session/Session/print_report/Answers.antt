use Rattle.std.proofs.Common.{◌∷◌, length}
use Rattle.session.specs.declared.printed.Reported.TheVariants.{Free}
use Rattle.session.specs.Session.{view}
use Rattle.session.specs.Printed.{reported_line}
use Rattle.session.proofs.Inputs.{client_more, clients_over, value_more}
use Rattle.session.proofs.session.Session.print_report.Goals as goal

pub loop-client-preserved : goal.loop-client-preserved
loop-client-preserved g c =
    let (rs, upto, written) = c.loop-client.invariant in
    (_, client_more upto c.in-Some.ensures, value_more reported_line _ _ _ (Free (length (view c.args.self.now).free) ∷ rs) _ written (rw c.held-held.ensures at c.in_ok-print-2.ensures))

pub returns : goal.returns
returns g c = let (rs, upto, written) = c.loop-client.invariant in clients_over upto c.in_default.ensures written
