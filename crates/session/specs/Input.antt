-- What is printed of a whole input.
--
-- held_at       what the end report says of a client that holds so many frames: how many, and its price there; nothing
--               of a client that holds none
-- held_by       what it says of a client as the broker is
-- ReportsClients   what it prints of the clients above a number, by rising number
-- Reports       the end report of a broker: the free frames, and then each client
-- LinesPrint    what is printed of lines on a broker, one value for each, under their numbers from one on; the calls that
--               they make, and the broker after them
-- PrintsAll     what is printed of the lines of an input on a new broker, and then the end report; the calls that they
--               make, and the broker after them
-- ended         the line of a value, spelled so, and its newline
-- lines         these of several values, one after another
-- LinesPerformed   lines at the front of an input were performed on a session, and the rest was not; what is printed of
--                  the lines
-- LinesPrinted     all lines of an input were performed, and what is printed of them was written
-- StopsWithin      some lines of an input were performed, and the rest was not
-- ReportPrinted    the end report of a session was written
-- InputPrinted     an input was performed on a new broker, and all that is printed of it was written, and nothing else
-- PrintedUnder     it was performed by a new session under a price
-- Served           the first 16,777,216 bytes of an input, where its bytes are known, were performed on a new broker, and
--                  what is printed of them was handed on to the writer below a buffer
use Rattle.std.specs.Prelude.{◌≡◌, ℕ, zero, suc, ◌+◌, List, [], ◌∷◌, ◌++◌, take, length, Some, None, Option, IfSome}
use Rattle.std.specs.List.{flat_map}
use Rattle.std.specs.Io.KnownBytes.{Appends}
use Rattle.std.specs.Io.Buffered.{writer_contents, writer_inner, writer_buffer}
use Rattle.std.specs.declared.io.buffered.BufWriter.{BufWriter}
use Rattle.rules.specs.Offers.{Meaning}
use Rattle.events.specs.Input.{CutsOff, IsCutInto}
use Rattle.laws.specs.Broker as rules
use Rattle.laws.specs.Broker.{holding}
use Rattle.laws.specs.Guarantees.{Guarantees}
use Rattle.laws.specs.Questions.{price_at}
use Rattle.pool.specs.View.{IsNextClient}
use Rattle.broker.specs.View.{History}
use Rattle.price.specs.declared.price.Price.{Ghosts}
use Rattle.session.specs.declared.printed.Held.{Held}
use Rattle.session.specs.declared.printed.Printed.{Printed}
use Rattle.session.specs.declared.printed.Reported.{Reported}
use Rattle.session.specs.declared.printed.Reported.TheVariants as report
use Rattle.session.specs.Printed.{printed_line, reported_line}
use Rattle.session.specs.Session.{Session, price_of, meaning, view, Calls, Led, LinePrints}

abbrev pub held_at : Meaning → rules.Broker → ℕ → ℕ → Option Held
held_at m b c zero = None
held_at m b c (suc n) = Some (record { frames = suc n; price = price_at m b c (suc n) })

abbrev pub held_by : Meaning → rules.Broker → ℕ → Option Held
held_by m b c = held_at m b c (holding b c)

pub data ReportsClients (m : Meaning) (b : rules.Broker) : ℕ → List Reported → Type 0 where
  end : {n : ℕ} → IsNextClient b n None → ReportsClients m b n []
  next : {n c : ℕ} {rs : List Reported} →
      IsNextClient b n (Some c) → ReportsClients m b c rs → ReportsClients m b n (report.Client c (held_by m b c) ∷ rs)

abbrev pub Reports : Meaning → rules.Broker → List Reported → Type 0
Reports m b all = (rs : List Reported) × ReportsClients m b 0 rs × (all ≡ report.Free (length b.free) ∷ rs)

pub data LinesPrint (m : Meaning) : rules.Broker → ℕ → List (List ℕ) → List Printed → Calls → rules.Broker → Type 0 where
  none : {b : rules.Broker} {n : ℕ} → LinesPrint m b n [] [] [] b
  then : {b d e : rules.Broker} {n : ℕ} {text : List ℕ} {texts : List (List ℕ)} {p : Printed} {vs : List Printed} {calls more : Calls} →
      LinePrints m n b text p calls d → LinesPrint m d (n + 1) texts vs more e →
      LinesPrint m b n (text ∷ texts) (p ∷ vs) (more ++ calls) e

pub record PrintsAll (m : Meaning) (input : List ℕ) (vs : List Printed) (rs : List Reported) (calls : Calls) (d : rules.Broker) : Type 0 where
  pub texts : List (List ℕ)
  pub cut : IsCutInto input texts
  pub performs : LinesPrint m rules.new_broker 1 texts vs calls d
  pub reports : Reports m d rs

abbrev pub ended : {V : Type 0} → (V → List ℕ) → V → List ℕ
ended spelled v = spelled v ++ 10 ∷ []

abbrev pub lines : {V : Type 0} → (V → List ℕ) → List V → List ℕ
lines spelled vs = flat_map (ended spelled) vs

module _ {P : Type 0} {g : Ghosts P} where
  pub record LinesPerformed (before : Session P g) (input rest : List ℕ) (vs : List Printed) (after : Session P g) : Type 0 where
    pub texts : List (List ℕ)
    pub calls : Calls
    pub cuts : CutsOff rest input texts
    pub performs : LinesPrint (meaning before) (view before) 1 texts vs calls (view after)
    pub price : price_of after ≡ price_of before
    -- whatever calls led to the session as it came, with these they lead to it as it is left
    pub history : (h : Calls) → Led h before → Led (calls ++ h) after

  pub record LinesPrinted (before : Session P g) (input : List ℕ) (after : Session P g) (held holds : Option (List ℕ)) : Type 0 where
    pub values : List Printed
    pub performed : LinesPerformed before input [] values after
    pub written : Appends held holds (lines printed_line values)

  abbrev pub StopsWithin : Session P g → List ℕ → Session P g → Type 0
  StopsWithin before input after = (rest : List ℕ) × (vs : List Printed) × LinesPerformed before input rest vs after

  pub record ReportPrinted (s : Session P g) (held holds : Option (List ℕ)) : Type 0 where
    pub report : List Reported
    pub reports : Reports (meaning s) (view s) report
    pub written : Appends held holds (lines reported_line report)

pub record InputPrinted (m : Meaning) (input : List ℕ) (d : rules.Broker) (held holds : Option (List ℕ)) : Type 0 where
  pub values : List Printed
  pub report : List Reported
  pub calls : Calls
  pub prints : PrintsAll m input values report calls d
  -- and nothing else is printed, no other calls are made, and no other broker is left
  pub only : (vs : List Printed) (rs : List Reported) (others : Calls) (e : rules.Broker) →
      PrintsAll m input vs rs others e → (vs ≡ values) × (rs ≡ report) × (others ≡ calls) × (e ≡ d)
  pub history : History m calls d
  pub guarantees : Guarantees m calls
  pub written : Appends held holds (lines printed_line values ++ lines reported_line report)

abbrev pub PrintedUnder : {P : Type 0} {g : Ghosts P} → P → List ℕ → Option (List ℕ) → Option (List ℕ) → Session P g → Type 0
PrintedUnder {g = g} price input held holds s = InputPrinted (g.meaning price) input (view s) held holds × (price_of s ≡ price)

module _ {W A : Type 0} where
  pub record Served (m : Meaning) (given : Option (List ℕ)) (contents : W → Option (List ℕ)) (before after : BufWriter W A) : Type 0 where
    pub input : List ℕ
    pub read : IfSome given (λ bytes. input ≡ take 16_777_216 bytes)
    pub left : rules.Broker
    pub printed : InputPrinted m input left (writer_contents contents before) (contents (writer_inner after))
    -- nothing waits in the buffer
    pub flushed : writer_buffer after ≡ []
