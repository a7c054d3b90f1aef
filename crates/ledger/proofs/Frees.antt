-- The frames of a stack go one by one onto the free stack.
use Rattle.std.proofs.Common.{◌≡◌, ℕ, ◌+◌, ◌<◌, ◌≢◌, true, List, ◌++◌, reverse, length, is_some, Some, None, Option, MatchOption, ap, arith}
use Rattle.std.proofs.lemmas.Grind.{common_steps}
use Rattle.ledger.specs.Stacks.{Moved}

-- i frames of an owner have gone, with s at the start and t now
pub record Going (s t : ℕ → List ℕ) (owner i : ℕ) : Type 0 where
  pub left : i + length (t owner) ≡ length (s owner)
  pub free : reverse (t owner) ++ t 0 ≡ reverse (s owner) ++ s 0
  pub others : (o : ℕ) → (o ≢ 0) → (o ≢ owner) → t o ≡ s o

-- one more goes
module _ (N : Type 0) (t u : ℕ → List ℕ) (o : ℕ) where
  pub some_moved : (r : Option ℕ) → true ≡ is_some r → MatchOption r N (Moved t u o 0) → (o ≢ 0) × (0 < length (t o))
  some_moved (Some f) e m = (λ z. omega (arith, ap length m.taken, ap length m.given, ap (λ q. length (t q)) z, ap (λ q. length (u q)) z), omega (arith, ap length m.taken))
  some_moved None e m = cc

  pub going_on : (s : ℕ → List ℕ) (i : ℕ) (r : Option ℕ) → true ≡ is_some r → MatchOption r N (Moved t u o 0) → o ≢ 0 → Going s t o i → Going s u o (i + 1)
  going_on s i (Some f) e m pos g = record { left = omega (arith, ap length m.taken, g.left); free = grind (arith, common_steps, m.taken, m.given, g.free); others = λ q z d. grind (arith, m.others q, g.others q) }
  going_on s i None e m pos g = cc
