use Rattle.std.proofs.Common.{◌≡◌, ℕ, ◌+◌, ◌-◌, ◌^◌, ◌<◌, List, length, take, drop, decimal, ◌∙◌, arith}
use Rattle.std.proofs.lemmas.List.{take-append-drop, take_rest}
use Rattle.events.specs.declared.word.Due.TheVariants as due
use Rattle.events.specs.Grammar.{IsMissing}
use Rattle.events.specs.Reading.{CountsDigits}
use Rattle.events.proofs.DigitRuns.{decimal_digits, one_run}
use Rattle.events.proofs.reader.Reader.number.Goals as goal

-- where all the digits at a place are no number, no number stands there
no_number_there : (l : List ℕ) (at k : ℕ) → CountsDigits (take (length l - at) (drop at l)) k → ((n : ℕ) → n < 2 ^ 32 → take (at + k - at) (drop at l) ≡ decimal n → ⊥) → IsMissing due.Number (drop at l)
no_number_there l at k run none n more small e stops =
    let here = rw (take_rest l at) at run in
    let same : at + k - at ≡ k = omega arith in
    let digits = one_run (take k (drop at l)) (decimal n) (drop k (drop at l)) more here.all (decimal_digits n small) here.stops stops (take-append-drop k (drop at l) ∙ e) in
    none n small (rw same digits.0)

pub returns-in_err-value : goal.returns-in_err-value
returns-in_err-value c = rw c.from_residual.ensures (no_number_there _ _ _ c.digits.ensures c.in_err-value.ensures)
