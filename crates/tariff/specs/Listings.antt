-- What is printed.
--
-- row         a line: a count of frames, a space, the bottom there, and the end of the line
-- rows        such a line for each place of a sheet, from a count on
-- Unprinted   why a sheet of a length that is asked for is not printed
-- IsListing   the text lists a sheet of a length that is asked for
-- Prints      such a text is printed, or the sheet is not printed
-- PrintsRead  what is printed for what was read of the words
-- Lists       what is printed for words
use Rattle.std.specs.Prelude.{◌≡◌, ℕ, ◌+◌, List, [], ◌∷◌, ◌++◌, length, Ok, Err, string_bytes, decimal, Result, String}
use Rattle.rules.specs.declared.refusal.Refusal.TheVariants.{RateOutOfRange, CountOutOfRange}
use Rattle.rules.specs.Prices.{Sheet}
use Rattle.rules.specs.Refusals.{First, Clear, sheet_entries}
use Rattle.tariff.specs.declared.request.Request.{Request}
use Rattle.tariff.specs.declared.fault.Fault.{Fault}
use Rattle.tariff.specs.declared.fault.Fault.TheVariants as fault
use Rattle.tariff.specs.Faults.{Reads}

abbrev pub row : ℕ → ℕ → List ℕ
row k bottom = decimal k ++ (32 ∷ (decimal bottom ++ (10 ∷ [])))

abbrev pub rows : ℕ → List ℕ → List ℕ
rows k [] = []
rows k (b ∷ bs) = row k b ++ rows (k + 1) bs

abbrev pub Unprinted : Request → ℕ → Fault → Type 0
Unprinted q n fault.HighRate = First (sheet_entries q.rate n) RateOutOfRange
Unprinted q n fault.LongSheet = First (sheet_entries q.rate n) CountOutOfRange
Unprinted q n fault.Memory = Clear (sheet_entries q.rate n)
Unprinted q n _ = ⊥

module _ {Z : Type 0} where
  abbrev pub IsListing : Request → ℕ → String Z → Type 0
  IsListing q n text =
      (xs : List ℕ) × (length xs ≡ n) × Sheet q.rate q.active xs × (string_bytes text ≡ rows 1 xs)

  abbrev pub Prints : Request → ℕ → Result (String Z) Fault → Type 0
  Prints q n (Ok text) = Clear (sheet_entries q.rate n) × IsListing q n text
  Prints q n (Err f) = Unprinted q n f

  abbrev pub PrintsRead : Result Request Fault → Result (String Z) Fault → Type 0
  PrintsRead (Ok q) r = Prints q q.length r
  PrintsRead (Err f) r = r ≡ Err f

  abbrev pub Lists : List (List ℕ) → Result (String Z) Fault → Type 0
  Lists ws r = (read : Result Request Fault) × Reads ws read × PrintsRead read r
