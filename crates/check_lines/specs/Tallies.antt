-- What is printed of an input: its faults and its tally.
--
-- tally_line     the line of a tally
-- printed_at     what is printed of the malformed line with this number, with its newline
-- PrintsFaults   so many of some lines are events, and this is printed of the others, in order, each under its number
-- IsReport       a tally counts the lines that an input consists of, and this was printed of them, and then the tally
use Rattle.std.specs.Prelude.{◌≡◌, ℕ, ◌+◌, List, [], ◌∷◌, ◌++◌, length, Ok, Err, Option, codes, decimal}
use Rattle.std.specs.Io.KnownBytes.{Appends}
use Rattle.rules.specs.declared.refusal.Refusal.{Refusal}
use Rattle.events.specs.declared.event.Event.{Event}
use Rattle.events.specs.Faults.{Verdict}
use Rattle.events.specs.Input.{IsCutInto}
use Rattle.events.specs.LineFaults.{fault_line}
use Rattle.check_lines.specs.declared.report.Tally.{Tally}

abbrev pub tally_line : Tally → List ℕ
tally_line t = codes "lines " ++ (decimal t.lines ++ (codes " events " ++ decimal t.events))

abbrev pub printed_at : ℕ → Refusal → List ℕ
printed_at n r = fault_line (record { line = n; refusal = r }) ++ 10 ∷ []

pub data PrintsFaults : List (List ℕ) → ℕ → List ℕ → Type 0 where
  none : PrintsFaults [] 0 []
  good : {lines : List (List ℕ)} {n : ℕ} {printed line : List ℕ} → PrintsFaults lines n printed →
      (e : Event) → Verdict line (Ok e) → PrintsFaults (lines ++ line ∷ []) (n + 1) printed
  bad : {lines : List (List ℕ)} {n : ℕ} {printed line : List ℕ} → PrintsFaults lines n printed →
      (r : Refusal) → Verdict line (Err r) → PrintsFaults (lines ++ line ∷ []) n (printed ++ printed_at (length lines + 1) r)

pub record IsReport (input : List ℕ) (t : Tally) (before after : Option (List ℕ)) : Type 0 where
  pub lines_of : List (List ℕ)
  pub faults : List ℕ
  pub cut : IsCutInto input lines_of
  -- and there is no other way to cut it
  pub only : (others : List (List ℕ)) → IsCutInto input others → others ≡ lines_of
  pub lines : t.lines ≡ length lines_of
  pub prints : PrintsFaults lines_of t.events faults
  pub written : Appends before after (faults ++ (tally_line t ++ 10 ∷ []))
