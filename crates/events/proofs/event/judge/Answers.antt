use Rattle.std.proofs.Common.{ap, ◌∙◌, arith}
use Rattle.std.proofs.lemmas.List.{length-take-le}
use Rattle.std.proofs.lemmas.Result.{err_from_is_err_and}
use Rattle.events.specs.Grammar.{number_count}
use Rattle.events.proofs.ReaderFaults.{count_few, end_fault}
use Rattle.events.proofs.event.judge.Goals as goal

pub returns-in_err-finish : goal.returns-in_err-finish
returns-in_err-finish c =
    let p = err_from_is_err_and c.from_residual-in_err-finish.result c.from_residual-in_err-finish.ensures.1 in
    let kind = c.in_ok-form.form.kind in
    let read = c.in_ok-numbers.ensures.cases in
    let ended = c.in_err-finish.ensures in
    let all = length-take-le (number_count kind) c.in_ok-numbers.numbers (omega (arith, count_few kind, read.1)) in
    rw p.1 (
      c.in_err-finish.field-0.0,
      p.2,
      end_fault _ _ _ kind _ _ _ (ap (λ l. l.now) c.form.ensures.line ∙ c.new-reader.ensures.line) (ap (λ l. l.now) c.numbers.ensures.line) read.0 all ended.0 ended.1,
    )
