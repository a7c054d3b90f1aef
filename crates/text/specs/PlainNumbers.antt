-- Numbers in plain decimal.
--
-- WritesNumber     some bytes are a number of at most 32 bits in decimal, with no leading zero
-- WritesNoNumber   they are no such number
-- ReadsPlainly     the number that some bytes write, or none where they write no number
use Rattle.std.specs.Prelude.{◌≡◌, ℕ, ◌^◌, ◌<◌, List, Some, None, Option, decimal, ◌≢◌}

abbrev pub WritesNumber : List ℕ → ℕ → Type 0
WritesNumber bs n = (n < 2 ^ 32) × (bs ≡ decimal n)

abbrev pub WritesNoNumber : List ℕ → Type 0
WritesNoNumber bs = (n : ℕ) → n < 2 ^ 32 → bs ≢ decimal n

abbrev pub ReadsPlainly : List ℕ → Option ℕ → Type 0
ReadsPlainly bs (Some n) = WritesNumber bs n
ReadsPlainly bs None = WritesNoNumber bs
