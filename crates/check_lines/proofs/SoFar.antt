-- What the report knows after some lines.
use Rattle.std.proofs.Common.{◌≡◌, ℕ, ◌+◌, ◌<◌, ◌≤◌, List, [], ◌∷◌, ◌++◌, length, take, Some, None, Option, Result, sym, refl, ap, ◌∙◌, arith}
use Rattle.std.proofs.KnownBytes.{Appends-nil, Appends-trans}
use Rattle.std.proofs.lemmas.List.{length_push, take-take}
use Rattle.std.specs.Io.KnownBytes.{Appends}
use Rattle.rules.specs.declared.refusal.Refusal.{Refusal}
use Rattle.events.specs.declared.event.Event.{Event}
use Rattle.events.specs.Faults.{Verdict}
use Rattle.events.proofs.OneCut.{cuts_on, one_cut}
use Rattle.events.specs.Input.{CutsOff, GivesLine, none}
use Rattle.check_lines.specs.declared.report.Tally.{Tally}
use Rattle.check_lines.specs.Tallies.{tally_line, PrintsFaults, IsReport}
use Rattle.check_lines.specs.Tallies as tallies

-- some lines were cut off the input, the tally is theirs and they are printed, and this is left
pub record SoFar (input : List ℕ) (before : Option (List ℕ)) (t : Tally) (left : List ℕ) (after : Option (List ℕ)) : Type 0 where
  pub seen : List (List ℕ)
  pub printed : List ℕ
  pub cuts : CutsOff left input seen
  pub lines : t.lines ≡ length seen
  pub prints : PrintsFaults seen t.events printed
  pub written : Appends before after printed
  pub room : t.lines + length left ≤ length input
  pub fewer : t.events ≤ t.lines

pub begun : (input : List ℕ) (before : Option (List ℕ)) → SoFar input before (record { lines = 0; events = 0 }) input before
begun input before =
    record { seen = []; printed = []; cuts = none refl; lines = refl; prints = tallies.none; written = Appends-nil before; room = omega arith; fewer = omega arith }

-- one line more, an event or not, and what is printed of it
pub one_more : (input text rest left more : List ℕ) (before mid after : Option (List ℕ)) (t u : Tally) (r : Result Event Refusal) → SoFar input before t rest mid → GivesLine rest (Some text) left → length left < length rest →
    ((m : List ℕ) → take 80 m ≡ take 80 text → Verdict m r) → u.lines ≡ t.lines + 1 → Appends mid after more →
    ((line printed : List ℕ) (seen : List (List ℕ)) → t.lines ≡ length seen → Verdict line r → PrintsFaults seen t.events printed → PrintsFaults (seen ++ line ∷ []) u.events (printed ++ more) × (u.events ≤ u.lines)) →
    SoFar input before u left after
one_more input text rest left more before mid after t u r s next less read up writes counted =
    let line = next.0 in
    let verdict = read line (sym (take-take 80 80 line (omega arith)) ∙ ap (take 80) (sym next.1)) in
    let c = counted line s.printed s.seen s.lines verdict s.prints in
    record {
      seen = s.seen ++ line ∷ [];
      printed = s.printed ++ more;
      cuts = cuts_on rest left (line ∷ []) input s.seen s.cuts next.2;
      lines = omega (arith, s.lines, length_push s.seen line);
      prints = c.0;
      written = Appends-trans before mid after s.printed more s.written writes;
      room = omega (arith, s.room);
      fewer = c.1;
    }

pub done : (input : List ℕ) (before mid after : Option (List ℕ)) (t : Tally) (rest left : List ℕ) → SoFar input before t rest mid → GivesLine rest None left → Appends mid after (tally_line t ++ 10 ∷ []) → IsReport input t before after
done input before mid after t rest left s end writes =
    let cut = rw end.0 at s.cuts in
    record {
      lines_of = s.seen;
      faults = s.printed;
      cut = cut;
      only = λ others c. one_cut input others s.seen c cut;
      lines = s.lines;
      prints = s.prints;
      written = Appends-trans before mid after s.printed (tally_line t ++ 10 ∷ []) s.written writes;
    }
