-- What is kept by number, as the clients of a broker: sums over client numbers, and one thing replaced.
--
-- upto       the sum of a function over the numbers from 1 to n
-- total      its sum over all client numbers, 1 to 256
-- Numbered   the number is a client number
-- put        what is kept by number, with another thing in the place of one
-- by_number  what a table keeps for a number: client c stands in place c - 1
use Rattle.std.specs.Prelude.{ℕ, zero, suc, ◌+◌, ◌≤◌, cond, List, None, Option, ◌==◌, slice_index_or}

unfoldable pub upto : ℕ → (ℕ → ℕ) → ℕ
upto zero f = 0
upto (suc n) f = upto n f + f (suc n)

abbrev pub total : (ℕ → ℕ) → ℕ
total f = upto 256 f

abbrev pub Numbered : ℕ → Type 0
Numbered c = (1 ≤ c) × (c ≤ 256)

unfoldable pub put : {A : Type 0} → (ℕ → A) → ℕ → A → ℕ → A
put f c x d = cond (d == c) x (f d)

abbrev pub by_number : {A : Type 0} → List (Option A) → ℕ → Option A
by_number xs zero = None
by_number xs (suc i) = slice_index_or xs i None
