-- How long a number is in decimal.
use Rattle.std.proofs.Common.{ℕ, ◌<◌, ◌≤◌, decimal, length, arith}
use Rattle.std.proofs.lemmas.Fmt.{length-decimal-le}

-- a number of the code takes 10 bytes at most
pub decimal_short : (n : ℕ) → n < 4_294_967_296 → length (decimal n) ≤ 10
decimal_short n fits = length-decimal-le 10 n (omega arith) (omega (arith, fits)) (omega (arith, fits))
