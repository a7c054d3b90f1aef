-- Stacks of frames, as lists from the top down, and what moves between them.
--
-- summed    the sum of a function over the first n numbers, from 0 on
-- pooled    1 for the frames 1 to F, 0 for every other number
-- Once      each of the frames 1 to F lies in exactly one stack of the owners below n, once, and no other number in any
-- AllFree   the frames 1 to F lie in the free stack, 1 on top and F at the bottom, and no other stack has any
-- Moved     the top frame of one stack went on top of another, and the rest stayed
-- Freed     the frames of one stack went, the top one first, each on top of the free stack, and the rest stayed
use Rattle.std.specs.Prelude.{◌≡◌, ℕ, zero, suc, cond, List, [], ◌∷◌, ◌++◌, map, sum, count_by, reverse, length, ◌==◌, ◌≢◌, nat_lt}
use Rattle.std.specs.List.{range_with_len}

unfoldable pub summed : (ℕ → ℕ) → ℕ → ℕ
summed g n = sum (map g (range_with_len 0 n))

abbrev pub pooled : ℕ → ℕ → ℕ
pooled F zero = 0
pooled F (suc f) = cond (nat_lt f F) 1 0

-- One equation for each number says all three: in some stack, in no other, and in it once.
abbrev pub Once : (ℕ → List ℕ) → ℕ → ℕ → Type 0
Once s n F = (f : ℕ) → summed (λ o. count_by (λ g. f == g) (s o)) n ≡ pooled F f

pub record AllFree (t : ℕ → List ℕ) (F : ℕ) : Type 0 where
  pub free : t 0 ≡ range_with_len 1 F
  pub others : (o : ℕ) → (o ≢ 0) → t o ≡ []

pub record Moved (s t : ℕ → List ℕ) (from to f : ℕ) : Type 0 where
  pub taken : s from ≡ f ∷ t from
  pub given : t to ≡ f ∷ s to
  pub others : (o : ℕ) → (o ≢ from) → (o ≢ to) → t o ≡ s o

pub record Freed (s t : ℕ → List ℕ) (owner many : ℕ) : Type 0 where
  pub counted : many ≡ length (s owner)
  pub emptied : t owner ≡ []
  pub free : t 0 ≡ reverse (s owner) ++ s 0
  pub others : (o : ℕ) → (o ≢ 0) → (o ≢ owner) → t o ≡ s o
