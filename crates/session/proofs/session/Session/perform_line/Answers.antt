use Rattle.std.proofs.lemmas.Result.{err_from_is_err_and}
use Rattle.session.proofs.Steps.{event_performed, malformed_performed}
use Rattle.session.proofs.session.Session.perform_line.Goals as goal

pub returns-in_err-event : goal.returns-in_err-event
returns-in_err-event g c =
    let p = err_from_is_err_and c.from_residual.result c.from_residual.ensures.1 in
    rw (p.1, p.2) (malformed_performed c.in_err-event.ensures.decided)

pub returns : goal.returns
returns g c = event_performed c.in_ok-event.ensures.decided c.perform.ensures
