use Rattle.std.proofs.Common.{ap}
use Rattle.std.proofs.lemmas.Result.{err_from_is_err_and}
use Rattle.events.specs.Reading.{no_space}
use Rattle.events.proofs.ReaderFaults.{number_missed}
use Rattle.events.proofs.reader.Reader.next_number.Goals as goal

pub returns-in_err-next_word-clause-cases : goal.returns-in_err-next_word-clause-cases
returns-in_err-next_word-clause-cases c =
    let p = err_from_is_err_and c.from_residual.result c.from_residual.ensures.1 in
    let missed = c.in_err-next_word.ensures.cases in
    rw (p.1, p.2, missed.fault) (no_space missed.missing)

pub returns-in_err-value-clause-cases : goal.returns-in_err-value-clause-cases
returns-in_err-value-clause-cases c =
    let p = err_from_is_err_and c.from_residual-in_err-value.result c.from_residual-in_err-value.ensures.1 in
    rw (p.1, p.2) (number_missed _ _ _ _ _ _ _ (ap (λ x. x.now) c.next_word.ensures.line) c.in_ok-next_word.ensures.cases c.in_err-value.ensures.cases)
