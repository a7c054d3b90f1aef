-- The first fault of an event line, and the verdict on a line.
--
-- LastStops    the last of some numbers ends where the rest of the line begins
-- Begins       the line begins with a letter and some numbers, rightly written, and goes on with the rest
-- fault_at     a fault of this kind at this column
-- FirstFault   the first fault from the left, with its kind and its column
-- Verdict      a line is that of an event, or has a first fault
-- RoundTrip    reading and writing an event undo each other
use Rattle.std.specs.Prelude.{◌≡◌, ℕ, ◌+◌, ◌^◌, ◌<◌, List, [], ◌∷◌, ◌++◌, length, Ok, Err, Result, ◌≢◌}
use Rattle.std.specs.List.{AllByRecursion}
use Rattle.rules.specs.declared.refusal.Fault.{Fault}
use Rattle.rules.specs.declared.refusal.FaultKind.{FaultKind}
use Rattle.rules.specs.declared.refusal.FaultKind.TheVariants as fault
use Rattle.rules.specs.declared.refusal.Refusal.{Refusal}
use Rattle.rules.specs.declared.refusal.Refusal.TheVariants.{Malformed}
use Rattle.events.specs.declared.word.Due.TheVariants as due
use Rattle.events.specs.Grammar.{EventKind, line_of, number_count, NoDigit, IsMissing}
use Rattle.events.specs.Events.{Event, event_line, IsSized}

-- a number ends where no digit follows it
abbrev pub LastStops : List ℕ → List ℕ → Type 0
LastStops [] rest = Unit {0}
LastStops (n ∷ ns) rest = NoDigit rest

pub record Begins (line : List ℕ) (k : EventKind) (ns rest : List ℕ) : Type 0 where
  pub whole : line ≡ line_of k ns ++ rest
  pub sized : AllByRecursion (λ n. n < 2 ^ 32) ns
  pub stops : LastStops ns rest

abbrev pub fault_at : FaultKind → ℕ → Fault
fault_at k c = record { kind = k; column = c }

pub data FirstFault (line : List ℕ) : Fault → Type 0 where
  -- the line begins with none of the seven letters, or is empty
  no_letter : IsMissing due.Letter line → FirstFault line (fault_at fault.Letter 1)
  -- a number is still to come, and no space stands before it
  no_space : {k : EventKind} {ns rest : List ℕ} → Begins line k ns rest → length ns < number_count k →
      IsMissing due.Separator rest → FirstFault line (fault_at fault.Space (length (line_of k ns) + 1))
  -- a number is due after a space, and none stands there
  no_number : {k : EventKind} {ns rest : List ℕ} → Begins line k ns (32 ∷ rest) → length ns < number_count k →
      IsMissing due.Number rest → FirstFault line (fault_at fault.Number (length (line_of k ns) + 2))
  -- all numbers have come, and the line goes on
  no_end : {k : EventKind} {ns rest : List ℕ} → Begins line k ns rest → length ns ≡ number_count k →
      (rest ≢ []) → FirstFault line (fault_at fault.Excess (length (line_of k ns) + 1))

-- A line is the line of an event, or it is malformed by its first fault.
abbrev pub Verdict : List ℕ → Result Event Refusal → Type 0
Verdict line (Ok e) = IsSized e × (line ≡ event_line e)
Verdict line (Err r) = (f : Fault) × (r ≡ Malformed f) × FirstFault line f

pub record RoundTrip (e : Event) : Type 0 where
  -- the event, written and read again, is the same event
  pub event : (v : Result Event Refusal) → Verdict (event_line e) v → v ≡ Ok e
  -- each line that reads as the event is the same line when it is written again
  pub line : (line : List ℕ) → Verdict line (Ok e) → event_line e ≡ line
