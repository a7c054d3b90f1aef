-- Digits, and the numbers that they write in decimal.
use Rattle.std.proofs.Common.{◌≡◌, ℕ, zero, suc, ◌^◌, ◌<◌, ◌≤◌, true, false, List, [], ◌∷◌, ◌++◌, length, take, Some, None, decimal, Option, sym, refl, subst, arith, add-one}
use Rattle.events.specs.Grammar.{NoDigit}
use Rattle.events.specs.Reading.{CountsDigits}
use Rattle.std.proofs.lemmas.List.{drop_more, drop_all}
use Rattle.std.specs.List.{AllWithin, HoldsAt}
use Rattle.std.specs.Option.{MatchOption, unwrap_or}
use Rattle.std.proofs.lemmas.Bool.Decides.{nat_tests}
use Rattle.std.specs.Str.Parse.{AllDigits}
use Rattle.std.specs.Char.{is_ascii_digit, digit_value as digitValue}
use Rattle.std.proofs.lemmas.Fmt.{digits_decimal}
use Rattle.text.proofs.PlainNumbers.{numerals, digits_on}

-- where no byte before a place is other than a digit, digits stand there
digits_to : (bs : List ℕ) (i : ℕ) → i ≤ length bs → AllWithin (λ b. is_ascii_digit b ≡ true) bs 0 i → AllDigits 10 (take i bs)
digits_to bs zero h all = tt
digits_to bs (suc i) h all =
    let before = digits_to bs i (omega arith) (λ k d low high. all k d low (omega arith)) in
    rw add-one at (digits_on bs i (omega arith) before (all i 0 (omega arith) (omega arith)))

-- the digits before the first byte that is none, or before the end
pub run_to : (bs : List ℕ) (r : Option ℕ) →
    MatchOption r (AllWithin (λ b. is_ascii_digit b ≡ true) bs 0 (length bs)) (λ i. (i < length bs) × HoldsAt (λ b. is_ascii_digit b ≡ false) bs i × AllWithin (λ b. is_ascii_digit b ≡ true) bs 0 i) →
    CountsDigits bs (unwrap_or r (length bs))
run_to bs None all = record {
  within = omega arith;
  all = digits_to bs (length bs) (omega arith) all;
  stops = rw (drop_all (length bs) bs (omega arith)) tt;
}
run_to bs (Some i) first = record {
  within = omega (arith, first.0);
  all = digits_to bs i (omega (arith, first.0)) first.2;
  stops = rw (drop_more bs i 0 first.0) (first.1 0);
}

pub decimal_digits : (n : ℕ) → n < 2 ^ 32 → AllDigits 10 (decimal n)
decimal_digits n small = digits_decimal numerals n (omega arith)

digit_or_not : (b : ℕ) → digitValue b < 10 → is_ascii_digit b ≡ false → ⊥
digit_or_not b is not = grind (arith, nat_tests)

-- all the digits at the front of a text are one list, and what follows them is one
pub one_run : (ds es more rest : List ℕ) → AllDigits 10 ds → AllDigits 10 es → NoDigit more → NoDigit rest → ds ++ more ≡ es ++ rest → (ds ≡ es) × (more ≡ rest)
one_run [] [] more rest p q s t e = (refl, e)
one_run [] (x ∷ es) more rest p q s t e = absurd (digit_or_not x q.0 (subst NoDigit e s))
one_run (d ∷ ds) [] more rest p q s t e = absurd (digit_or_not d p.0 (subst NoDigit (sym e) t))
one_run (d ∷ ds) (x ∷ es) more rest p q s t e =
    let tails : ds ++ more ≡ es ++ rest = cc in
    let same = one_run ds es more rest p.1 q.1 s t tails in
    let digits_same = same.0 in
    (cc, same.1)
