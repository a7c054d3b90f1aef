use Rattle.std.proofs.lemmas.Result.{err_from_is_err_and}
use Rattle.events.specs.Faults.{no_letter}
use Rattle.events.proofs.reader.Reader.form.Goals as goal

pub returns-in_err-form-clause-cases : goal.returns-in_err-form-clause-cases
returns-in_err-form-clause-cases c =
    let p = err_from_is_err_and c.from_residual.result c.from_residual.ensures.1 in
    let missed = c.in_err-form.ensures.cases in
    rw (p.1, p.2, missed.fault, c.requires) (no_letter (rw c.requires at missed.missing))
