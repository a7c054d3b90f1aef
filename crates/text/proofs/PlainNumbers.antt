-- Digits, and the numbers that they write in decimal.
use Rattle.std.proofs.Common.{◌≡◌, ℕ, zero, suc, ◌+◌, ◌-◌, ◌^◌, ◌<◌, ◌≤◌, true, false, List, length, get_or, take, Ok, Err, decimal, Result, sym, ap, ◌∙◌, arith}
use Rattle.text.specs.PlainNumbers.{WritesNoNumber, ReadsPlainly}
use Rattle.std.proofs.lemmas.Bool.Decides.{nat_tests}
use Rattle.std.specs.Result.{OkIff, result_ok}
use Rattle.std.specs.Str.Parse.{AllDigits, digits_value}
use Rattle.std.specs.Char.{is_ascii_digit, digit_value as digitValue}
use Rattle.std.proofs.lemmas.Fmt.{decimal-digits_value, decimal_nonempty, decimal_digit, length-decimal-le, first_decimal, digits_value-decimal, digits_decimal}
use Rattle.std.proofs.lemmas.Int.Digits.{digits_value_more, digits_more}
use Rattle.std.proofs.lemmas.List.{length-take}
use Rattle.std.proofs.lemmas.Str.Parse.{IsNumeralModel, numerals_by_value, tells_digits, digit_at, digits_value_short}

-- the library's words for digits and their value
pub numerals : IsNumeralModel (AllDigits 10) (digits_value 10)
numerals = numerals_by_value (AllDigits 10) tells_digits

pub digit_from : (b : ℕ) → is_ascii_digit b ≡ true → (48 ≤ b) × (b ≤ 57) × (digitValue b ≡ b - 48)
digit_from b h = grind (arith, nat_tests)

-- what the first digits of a short number say is small enough to go on with
pub value_small : (ds : List ℕ) (i : ℕ) → AllDigits 10 (take i ds) → i ≤ 9 → digits_value 10 (take i ds) < 10 ^ 9
value_small ds i h few = digits_value_short numerals (take i ds) 9 h (omega (arith, length-take i ds))

-- and one digit more
pub digits_on : (ds : List ℕ) (i : ℕ) → i < length ds → AllDigits 10 (take i ds) → is_ascii_digit (get_or ds i 0) ≡ true → AllDigits 10 (take (i + 1) ds)
digits_on ds i l h digit = let is = digit_from (get_or ds i 0) digit in digits_more 10 ds i l h (omega (arith, is))

-- no number is written with more than ten digits, with a zero before others, or with a byte that is no digit
pub long_writes : (ds : List ℕ) → 10 < length ds → WritesNoNumber ds
long_writes ds long n small e = omega (arith, ap length e, length-decimal-le 10 n (omega arith) (omega arith) (omega arith))

pub zero_writes : (ds : List ℕ) → 1 < length ds → get_or ds 0 0 ≡ 48 → WritesNoNumber ds
zero_writes ds long first zero small e = omega (arith, ap length (e ∙ decimal_digit 0 (omega arith)))
zero_writes ds long first (suc n) small e =
    omega (arith, first_decimal (suc n) (omega arith) (omega arith), ap (λ xs. get_or xs 0 0) e)

pub other_writes : (ds : List ℕ) (i : ℕ) → i < length ds → is_ascii_digit (get_or ds i 0) ≡ false → WritesNoNumber ds
other_writes ds i l other n small e =
    let same = ap (λ xs. get_or xs i 0) e in
    let size = ap length e in
    let digit = digit_at (decimal n) i (digits_decimal numerals n (omega arith)) (omega arith) in
    grind (arith, nat_tests)

-- digits, rightly written, are a number if their value fits
pub number_read : {E : Type 0} (ds : List ℕ) (v : ℕ) (r : Result ℕ E) → AllDigits 10 ds → 0 < length ds → (get_or ds 0 0 ≡ 48 → length ds ≡ 1) → v ≡ digits_value 10 ds →
    OkIff r (v < 2 ^ 32) v → ReadsPlainly ds (result_ok r)
number_read ds v (Ok x) h some lead e fits =
    (omega (arith, fits), rw (fits.1, e) (sym (decimal-digits_value numerals ds h some lead (omega (arith, fits)))))
number_read ds v (Err x) h some lead e fits =
    λ n small is. fits (omega (arith, ap (digits_value 10) is, digits_value-decimal numerals n (omega arith)))

-- what is wanted where a text is read byte by byte
pub ruleset plain = (digit_from, value_small, digits_on, digits_value_more, decimal_nonempty, long_writes, zero_writes, other_writes)
