-- Filling a tariff sheet.
--
-- FillsSheet   a sheet is filled from a rate and an active count or none, or refused, and what it holds then
use Rattle.std.specs.Prelude.{◌≡◌, ℕ, List, length, Err, Option, Result}
use Rattle.rules.specs.declared.refusal.Refusal.{Refusal}
use Rattle.rules.specs.Prices.{Sheet}
use Rattle.rules.specs.Refusals.{Replies, sheet_entries}

pub record FillsSheet (rate : ℕ) (active : Option ℕ) (before : List ℕ) (r : Result Unit Refusal) (after : List ℕ)
    : Type 0 where
  -- refused by the first entry met; where none is, every place has its bottom
  pub replies : Replies (sheet_entries rate (length before)) (λ _. Sheet rate active after) r
  -- a refused sheet stays as it was
  pub kept : (e : Refusal) → r ≡ Err e → after ≡ before
  -- no place is added or lost
  pub places : length after ≡ length before
