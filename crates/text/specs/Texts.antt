-- What a text says, and what writing it into a buffer does.
--
-- spelt           the bytes of a text
-- kept            what a text keeps of some bytes: the first 128
-- IsAtFront       a buffer holds some bytes at its front, and behind them what it held there before
-- WritesToFront   some bytes are written to the front of a buffer, or refused, and this is what the buffer then holds
use Rattle.std.specs.Prelude.{◌≡◌, ℕ, List, ◌++◌, length, take, drop, Err, Result}
use Rattle.rules.specs.declared.refusal.Refusal.{Refusal}
use Rattle.rules.specs.Refusals.{Replies, buffer_entries}
use Rattle.text.specs.declared.text.Text.{Text}

abbrev pub spelt : Text → List ℕ
spelt t = t.line.items

unfoldable pub kept : List ℕ → List ℕ
kept bs = take 128 bs

abbrev pub IsAtFront : List ℕ → List ℕ → List ℕ → Type 0
IsAtFront bs before after = after ≡ bs ++ drop (length bs) before

pub record WritesToFront (bs before : List ℕ) (r : Result ℕ Refusal) (after : List ℕ) : Type 0 where
  -- refused where the buffer is too short; else their length is returned, and they stand at the front
  pub replies : Replies (buffer_entries (length bs) (length before)) (λ n. (n ≡ length bs) × IsAtFront bs before after) r
  -- a refused buffer stays as it was
  pub stays : (e : Refusal) → r ≡ Err e → after ≡ before
