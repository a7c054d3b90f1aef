-- A session: event lines performed on a broker, and what is printed of each.
--
-- Session         as in the code
-- broker_of       its broker
-- price_of, meaning, view   a session as a value: its price, what that tells, and its broker as the rules speak of it
-- Calls           calls with their answers, the latest first
-- Led             calls that lead from a new broker to the session's
-- Outcome         what is printed of an event, or its refusal
-- call_of         the call that an event makes
-- Prints          what is printed of an event by the answer to its call
-- taken_of        from whom a frame was taken, and its price at its holding before the loss; nobody where it was free
-- grant_of        what is printed of a slip: the asker's price at its holding with the new frame, and from whom it came
-- Performs        the outcome of an event on a broker, the calls that it makes, and the broker after them
-- LinePerforms    the same of a line
-- printed_of      what is printed of a line, or its fault
-- LinePrints      what is printed of a line with a number, the calls that it makes, and the broker after them
-- Performed       an event was performed on a session
-- LinePerformed   a line was
-- NumberedLinePerformed           a line with a number was
use Rattle.std.specs.Prelude.{◌≡◌, ℕ, zero, suc, List, [], ◌∷◌, ◌++◌, take, Some, None, Ok, Err, Option, Result}
use Rattle.rules.specs.Offers.{Meaning}
use Rattle.rules.specs.declared.refusal.Refusal.{Refusal}
use Rattle.events.specs.declared.event.Event.{Event}
use Rattle.events.specs.declared.event.Event.TheVariants as event
use Rattle.events.specs.Faults.{Verdict}
use Rattle.events.specs.LineFaults.{at_line}
use Rattle.events.specs.declared.line_fault.LineFault.{LineFault}
use Rattle.laws.specs.Broker as rules
use Rattle.laws.specs.Broker.{Estimate, SlipNumbers, holding}
use Rattle.laws.specs.Calls.{Call, Start, Admit, Ask, Deliver, HandBack, Leave, SetEstimate, SetClock, Admission}
use Rattle.laws.specs.Calls.{Answer, Done, Granted, Frame, Count, Step}
use Rattle.laws.specs.Histories as history
use Rattle.laws.specs.Questions.{price_at}
use Rattle.broker.specs.declared.broker.Broker.{Broker}
use Rattle.broker.specs.View as broker
use Rattle.price.specs.declared.price.Price.{Ghosts}
use Rattle.session.specs.declared.printed.Grant.{Grant}
use Rattle.session.specs.declared.printed.Taken.{Taken}
use Rattle.session.specs.declared.printed.Printed.{Printed}
use Rattle.session.specs.declared.printed.Printed.TheVariants as line
pub use Rattle.session.specs.declared.session.Session.{Session}

abbrev pub Calls : Type 0
Calls = List history.Event

module _ {P : Type 0} {g : Ghosts P} where
  abbrev pub broker_of : Session P g → Broker P g
  broker_of s = s.broker

  -- it never changes
  abbrev pub price_of : Session P g → P
  price_of s = s.broker.price

  abbrev pub meaning : Session P g → Meaning
  meaning s = g.meaning (price_of s)

  abbrev pub view : Session P g → rules.Broker
  view s = broker.view s.broker

  abbrev pub Led : Calls → Session P g → Type 0
  Led h s = broker.History (meaning s) h (view s)

abbrev pub Outcome : Type 0
Outcome = Result Printed Refusal

abbrev pub call_of : Event → Call
call_of (event.Start unit frames) = Start unit frames
call_of (event.Admit a) = Admit a
call_of (event.Ask client) = Ask client
call_of (event.HandBack client) = HandBack client
call_of (event.Leave client) = Leave client
call_of (event.Estimate client e) = SetEstimate client e
call_of (event.Clock tick) = SetClock tick

-- An ask is not among them: what is printed of a grant, its answer alone does not say.
pub data Prints : Event → Answer → Printed → Type 0 where
  pool : {u F : ℕ} → Prints (event.Start u F) Done (line.Pool u F)
  admit : {a : Admission} → Prints (event.Admit a) Done (line.Admit a.client)
  back : {c f : ℕ} → Prints (event.HandBack c) (Frame f) (line.Back c f)
  leave : {c n : ℕ} → Prints (event.Leave c) (Count n) (line.Leave c n)
  estimate : {c : ℕ} {e : Estimate} → Prints (event.Estimate c e) Done (line.Estimate c)
  clock : {t n : ℕ} → Prints (event.Clock t) (Count n) (line.Clock t n)

abbrev pub taken_of : Meaning → rules.Broker → ℕ → Option Taken
taken_of m b zero = None
taken_of m b (suc p) = Some (record { from = suc p; over = price_at m b (suc p) (holding b (suc p)) })

-- b is the broker before the grant, and g the broker after it
abbrev pub grant_of : Meaning → rules.Broker → SlipNumbers → rules.Broker → Grant
grant_of m b s g =
    record {
      client = s.client;
      frame = s.frame;
      paying = price_at m g s.client (holding g s.client);
      taken = taken_of m b s.former;
    }

pub data Performs (m : Meaning) (b : rules.Broker) : Event → Outcome → Calls → rules.Broker → Type 0 where
  called : {e : Event} {a : Answer} {p : Printed} {d : rules.Broker} →
      Step m b (call_of e) (Ok a) d → Prints e a p →
      Performs m b e (Ok p) (history.event (call_of e) (Ok a) d ∷ []) d
  -- the slip of an ask is delivered as soon as it is granted
  granted : {c : ℕ} {s : SlipNumbers} {g d : rules.Broker} →
      Step m b (Ask c) (Ok (Granted s)) g → Step m g (Deliver s) (Ok Done) d →
      Performs m b (event.Ask c) (Ok (line.Grant (grant_of m b s g)))
      (history.event (Deliver s) (Ok Done) d ∷ history.event (Ask c) (Ok (Granted s)) g ∷ []) d
  -- a refused call changes nothing
  refused : {e : Event} {r : Refusal} {d : rules.Broker} →
      Step m b (call_of e) (Err r) d → Performs m b e (Err r) (history.event (call_of e) (Err r) d ∷ []) d

pub data LinePerforms (m : Meaning) (b : rules.Broker) (text : List ℕ) : Outcome → Calls → rules.Broker → Type 0 where
  -- a line says an event
  performed : {e : Event} {r : Outcome} {calls : Calls} {d : rules.Broker} →
      Verdict text (Ok e) → Performs m b e r calls d → LinePerforms m b text r calls d
  -- or it is malformed, and makes no call
  malformed : {r : Refusal} → Verdict text (Err r) → LinePerforms m b text (Err r) [] b

abbrev pub printed_of : Result Printed LineFault → Printed
printed_of (Ok p) = p
printed_of (Err f) = line.Refused f

abbrev pub LinePrints : Meaning → ℕ → rules.Broker → List ℕ → Printed → Calls → rules.Broker → Type 0
LinePrints m n b text p calls d = (r : Outcome) × (p ≡ printed_of (at_line n r)) × LinePerforms m b text r calls d

module _ {P : Type 0} {g : Ghosts P} where
  pub record Performed (before : Session P g) (e : Event) (r : Outcome) (after : Session P g) : Type 0 where
    pub performs : (calls : Calls) × Performs (meaning before) (view before) e r calls (view after)
    pub price : price_of after ≡ price_of before

  -- Of a line the first 80 bytes decide, so any line that begins with them is performed alike.
  pub record LinePerformed (before : Session P g) (text : List ℕ) (r : Outcome) (after : Session P g) : Type 0 where
    pub performs : (whole : List ℕ) → take 80 whole ≡ take 80 text →
        (calls : Calls) × LinePerforms (meaning before) (view before) whole r calls (view after)
    pub price : price_of after ≡ price_of before
    -- whatever calls led to the session as it came, with those of this line they lead to it as it is left
    pub history : (h calls : Calls) (whole : List ℕ) → Led h before →
        LinePerforms (meaning before) (view before) whole r calls (view after) → Led (calls ++ h) after

  abbrev pub NumberedLinePerformed : ℕ → Session P g → List ℕ → Printed → Session P g → Type 0
  NumberedLinePerformed n before text p after = (r : Outcome) × (p ≡ printed_of (at_line n r)) × LinePerformed before text r after
