-- A table of records, as code holds them, and the same by number: client c stands in place c - 1.
use Rattle.std.proofs.Common.{◌≡◌, ℕ, zero, suc, ◌≤◌, ◌≢◌, List, length, take, set, None, sum_by, Option, refl, add-one, arith}
use Rattle.std.proofs.lemmas.List.{get_or-set_other}
use Rattle.std.proofs.lemmas.List.Sums.{sum_by_more}
use Rattle.laws.specs.ByNumber.{upto, by_number}

module _ {A : Type 0} where
  pub number_off : (xs : List (Option A)) (i : ℕ) (v : Option A) (c : ℕ) → c ≢ suc i → by_number (set xs i v) c ≡ by_number xs c
  number_off xs i v zero ne = refl
  number_off xs i v (suc j) ne = get_or-set_other xs i j v None (omega arith)

  pub number_sum : (f : Option A → ℕ) (xs : List (Option A)) (n : ℕ) → n ≤ length xs → upto n (λ c. f (by_number xs c)) ≡ sum_by f (take n xs)
  unfolding upto
  number_sum f xs zero h = refl
  number_sum f xs (suc n) h = omega (arith, number_sum f xs n (omega arith), rw add-one at (sum_by_more f xs n None h))
