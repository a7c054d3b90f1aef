-- What a session prints of lines, of its clients, and of a whole input.
use Rattle.std.proofs.Common.{◌≡◌, ℕ, ◌+◌, ◌<◌, ◌≤◌, List, [], ◌∷◌, ◌++◌, length, take, Some, None, Ok, Err, Option, Result, IfSome, OnOk, sym, refl, ap, ◌∙◌, subst, append_assoc, arith}
use Rattle.std.proofs.KnownBytes.{Appends-trans}
use Rattle.std.proofs.lemmas.List.{append-nil, flat_map_more, length_push, take-take}
use Rattle.std.specs.Io.KnownBytes.{Appends, Keeps, append_known}
use Rattle.std.specs.Io.Buffered.{writer_contents, writer_inner, writer_buffer}
use Rattle.std.specs.declared.io.buffered.BufWriter.{BufWriter}
use Rattle.rules.specs.Offers.{Meaning}
use Rattle.events.specs.Input as input
use Rattle.events.specs.Input.{CutsOff, GivesLine}
use Rattle.events.proofs.OneCut.{cuts_on}
use Rattle.laws.specs.Broker as rules
use Rattle.laws.specs.Histories as history
use Rattle.pool.specs.View.{IsNextClient}
use Rattle.broker.specs.View.{Guaranteed, History}
use Rattle.price.specs.declared.price.Price.{Ghosts}
use Rattle.session.specs.declared.printed.Printed.{Printed}
use Rattle.session.specs.declared.printed.Reported.{Reported}
use Rattle.session.specs.declared.printed.Reported.TheVariants as report
use Rattle.session.specs.Session.{Session, price_of, meaning, view, Calls, LinePrints, NumberedLinePerformed}
use Rattle.session.specs.Printed.{printed_line, reported_line}
use Rattle.session.specs.Input.{held_by, ReportsClients, LinesPrint, PrintsAll, ended, lines, LinesPerformed, LinesPrinted, ReportPrinted, InputPrinted, PrintedUnder, Served, end, next, none, then}
use Rattle.session.proofs.OnePrinting.{prints_once}

-- one line more
lines_on : (m : Meaning) {b d e : rules.Broker} {n k : ℕ} {text : List ℕ} {p : Printed} {calls more : Calls} {texts : List (List ℕ)} {vs : List Printed} →
    LinesPrint m b n texts vs calls d → k ≡ n + length texts → LinePrints m k d text p more e → LinesPrint m b n (texts ++ text ∷ []) (vs ++ p ∷ []) (more ++ calls) e
lines_on m {n = n} {k = k} none number prints = let same : k ≡ n = omega (arith, number) in rw append-nil (then (rw same at prints) none)
lines_on m (then first rest) number prints = rw (← append_assoc) (then first (lines_on m rest (omega (arith, number)) prints))

module _ {P : Type 0} {g : Ghosts P} where
  -- so many lines were performed, and this is left of the input
  pub record Through (first : Session P g) (input : List ℕ) (n : ℕ) (left : List ℕ) (all : List Printed) (s : Session P g) : Type 0 where
    pub performed : LinesPerformed first input left all s
    pub count : n ≡ length performed.texts
    pub room : n + length left ≤ length input

  pub begun : (s : Session P g) (whole : List ℕ) → Through s whole 0 whole [] s
  begun s whole =
      record { performed = record { texts = []; calls = []; cuts = input.none refl; performs = none; price = refl; history = λ h led. led }; count = refl; room = omega arith }

  pub one_more : {first s t : Session P g} {whole rest left text : List ℕ} {n k : ℕ} {vs : List Printed} {p : Printed} →
      Through first whole n rest vs s → GivesLine rest (Some text) left → length left < length rest → k ≡ n + 1 → NumberedLinePerformed k s text p t → Through first whole k left (vs ++ p ∷ []) t
  one_more {s = s} {t = t} {whole = whole} {rest = rest} {left = left} {k = k} {p = p} through (text, head, cuts) less raised (r, told, made) =
      let so_far = through.performed in
      let (calls, performs) = made.performs text (sym (take-take 80 80 text (omega arith)) ∙ ap (take 80) (sym head)) in
      let prints : LinePrints (meaning s) k (view s) text p calls (view t) = (r, told, performs) in
      record {
        performed = record {
          texts = so_far.texts ++ text ∷ [];
          calls = calls ++ so_far.calls;
          cuts = cuts_on rest left (text ∷ []) whole so_far.texts so_far.cuts cuts;
          performs = lines_on _ so_far.performs (omega (arith, through.count)) (rw (meaning, so_far.price) at prints);
          price = made.price ∙ so_far.price;
          history = λ h led. rw append_assoc (made.history (so_far.calls ++ h) calls text (so_far.history h led) performs);
        };
        count = omega (arith, through.count, length_push so_far.texts text);
        room = omega (arith, through.room);
      }

  -- the end of the input
  pub all_through : {first s : Session P g} {whole rest left : List ℕ} {n : ℕ} {vs : List Printed} {held holds : Option (List ℕ)} →
      Through first whole n rest vs s → Appends held holds (lines printed_line vs) → GivesLine rest None left → LinesPrinted first whole s held holds
  all_through {vs = vs} through written nothing = record { values = vs; performed = rw nothing.0 at through.performed; written = written }

  -- what the end report prints of clients up to one, with whatever it prints of those above that one behind it
  pub record Upto (s : Session P g) (n : ℕ) (rs : List Reported) : Type 0 where
    pub behind : (more : List Reported) → ReportsClients (meaning s) (view s) n more → ReportsClients (meaning s) (view s) 0 (rs ++ more)

  pub client_more : {s : Session P g} {n c : ℕ} {rs : List Reported} → Upto s n rs → IsNextClient (view s) n (Some c) →
      Upto s c (rs ++ report.Client c (held_by (meaning s) (view s) c) ∷ [])
  client_more upto above = record { behind = λ ws more. rw append_assoc (upto.behind _ (next above more)) }

  pub clients_over : {s : Session P g} {n : ℕ} {rs : List Reported} {held holds : Option (List ℕ)} → Upto s n rs → IsNextClient (view s) n None →
      Appends held holds (lines reported_line (report.Free (length (view s).free) ∷ rs)) → ReportPrinted s held holds
  clients_over {rs = rs} upto none_above written =
      record { report = _; reports = (rs, rw append-nil at (upto.behind [] (end none_above)), refl); written = written }

-- one value more is printed
pub value_more : {V : Type 0} (spelled : V → List ℕ) (a b c : Option (List ℕ)) (vs : List V) (v : V) → Appends a b (lines spelled vs) → Appends b c (ended spelled v) → Appends a c (lines spelled (vs ++ v ∷ []))
value_more spelled a b c vs v so_far more = subst (Appends a c) (flat_map_more (ended spelled) [] vs v) (Appends-trans a b c (lines spelled vs) (ended spelled v) so_far more)

-- an input printed by a new session
pub input_printed : {P : Type 0} {g : Ghosts P} {first s : Session P g} (under : P) (whole : List ℕ) (a b c : Option (List ℕ)) →
    view first ≡ rules.new_broker → Guaranteed (meaning first) → price_of first ≡ under → LinesPrinted first whole s a b → ReportPrinted s b c →
    PrintedUnder under whole a c s
input_printed {g = g} {s = s} under whole a b c new guaranteed price by_lines by_clients =
    let m = g.meaning under in
    let so_far = by_lines.performed in
    let d = view s in
    let prints : PrintsAll m whole by_lines.values by_clients.report so_far.calls d =
    record {
      texts = so_far.texts;
      cut = so_far.cuts;
      performs = rw (meaning, price, new) at so_far.performs;
      reports = rw (meaning, so_far.price, price) at by_clients.reports;
    }
    in
    let led : History m so_far.calls d = rw (append-nil, meaning, so_far.price, price) at (so_far.history [] (rw new history.start)) in (
      record {
        values = by_lines.values;
        report = by_clients.report;
        calls = so_far.calls;
        prints = prints;
        only = λ vs rs others e other. prints_once m whole vs _ rs _ others so_far.calls e d other prints;
        history = led;
        guarantees = (rw (meaning, price) at guaranteed) so_far.calls d led;
        written = Appends-trans a b c (lines printed_line by_lines.values) (lines reported_line by_clients.report) by_lines.written by_clients.written;
      },
      so_far.price ∙ price,
    )

-- what is kept by a writer whose buffer is then empty, the writer below it holds
handed_on : (a b d : Option (List ℕ)) (bs buffer : List ℕ) → Appends a b bs → Keeps b (append_known d buffer) → buffer ≡ [] → Appends a d bs
handed_on None b d bs buffer p q e = tt
handed_on (Some x) None d bs buffer p q e = absurd p
handed_on (Some x) (Some y) None bs buffer p q e = absurd q
handed_on (Some x) (Some y) (Some z) bs buffer p q e = rw (e, append-nil) at q ∙ p

-- an input that was read is served once the buffer has been flushed
pub served : {W A T E : Type 0} {m : Meaning} {input : List ℕ} {left : rules.Broker} {mid : Option (List ℕ)} (given : Option (List ℕ)) (contents : W → Option (List ℕ)) (before after : BufWriter W A) (flushed : Result T E) →
    IfSome given (λ bytes. input ≡ take 16_777_216 bytes) → InputPrinted m input left (writer_contents contents before) mid →
    Keeps mid (writer_contents contents after) → OnOk flushed (writer_buffer after ≡ []) → OnOk flushed (Served m given contents before after)
served {mid = mid} given contents before after (Ok x) read p kept empty =
    record {
      input = _;
      read = read;
      left = _;
      printed = record {
        values = p.values;
        report = p.report;
        calls = p.calls;
        prints = p.prints;
        only = p.only;
        history = p.history;
        guarantees = p.guarantees;
        written = handed_on (writer_contents contents before) mid (contents (writer_inner after)) _ _ p.written kept empty;
      };
      flushed = empty;
    }
served given contents before after (Err e) read p kept empty = tt
