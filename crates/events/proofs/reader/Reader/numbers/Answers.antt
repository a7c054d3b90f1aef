use Rattle.std.proofs.Common.{◌≡◌, ℕ, List, [], ◌∷◌, length, take, ap, ◌∙◌, arith}
use Rattle.std.proofs.lemmas.List.{length-take-le}
use Rattle.std.proofs.lemmas.Result.{err_from_is_err_and}
use Rattle.events.specs.Grammar.{EventKind, number_count}
use Rattle.events.proofs.ReaderFaults.{count_few, number_fault}
use Rattle.events.proofs.reader.Reader.numbers.Goals as goal

-- five places, before numbers are read into them
abbrev places : List ℕ
places = 0 ∷ 0 ∷ 0 ∷ 0 ∷ 0 ∷ []

-- the first places are as many as the kind has numbers
as_many : (k : EventKind) (ns : List ℕ) (n : ℕ) → n ≡ number_count k → length ns ≡ length (take n places) → length ns ≡ n
as_many k ns n e long = long ∙ length-take-le n places (omega (arith, count_few k))

pub returns-in_err-number-clause-cases : goal.returns-in_err-number-clause-cases
returns-in_err-number-clause-cases c =
    let p = err_from_is_err_and c.from_residual.result c.from_residual.ensures.1 in
    let same = c.loop-number.invariant.0 in
    let long = as_many c.args.form.kind c.loop-number.number-items c.args.form.count c.requires.1 c.loop-number.auto.number-items in
    let few = length-take-le c.loop-number.number-index c.loop-number.number-items (omega (arith, c.loop-number-test.true, c.loop-number.auto.number-items)) in
    rw (p.1, p.2) (number_fault _ _ _ _ _ _ (ap (λ l. l.now) same) (c.loop-number.invariant.1 _ c.requires.0) (omega (arith, few, long, c.requires.1, c.loop-number-test.true)) c.in_err-number.ensures.cases)
