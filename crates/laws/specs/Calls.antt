-- The eight calls: what each is refused for, in the order of the tests, and what it does.
--
-- Call, Answer     as in the code: a call with its numbers, and what an accepted one is answered
-- Admission        as in the code: an admission that is asked for
-- Open             a passage is open
-- Absent           the client is not admitted
-- passage_entry    that a passage is open
-- client_inputs    that a client's number is out of range
-- inputs           what a call's own numbers meet
-- caller_states    what each call of an admitted client meets first of the state
-- caller_entries   what each call of an admitted client meets first
-- states           what a call meets of the state, whatever the price
-- unpriced         what a call meets, whatever the price: first of its own numbers, then of the state
-- priced           what a call meets last, by the price
-- entries          the refusals that a call can meet
-- RefusedBy        the call is refused, for this reason
-- IsClear          the call meets no refusal: it is accepted
-- newcomer         the client that an admission makes: it has no frame and no estimate
-- with_stack, with_estimate   a client with another stack, with another estimate
-- moved            the broker with another free stack and other clients
-- lasts, lasting   what is left of an estimate, of a client, at a tick: estimates that end by then are dropped
-- ended, ends      how many estimates of a client, 0 or 1, end by a tick
-- slip             the numbers of the slip of an accepted ask: client, frame, former owner
-- granted          the broker after an accepted ask, its passage open
-- answered         what a call is answered whose accepted value is told by an answer word
-- Effect           an accepted call on a broker, what it is answered, and the broker after it
-- Step             a call on a broker, refused or accepted, what it is answered, and the broker after it
use Rattle.std.specs.Prelude.{◌≡◌, ℕ, ◌+◌, ◌%◌, ◌^◌, ◌<◌, ◌≤◌, cond, ◌⊎◌, List, [], ◌∷◌, ◌++◌, reverse, length, Some, None, Ok, Err, Option, Result, ◌≢◌, nat_le}
use Rattle.std.specs.List.{range_with_len}
use Rattle.std.specs.Result.{result_map_both}
pub use Rattle.rules.specs.declared.call.Admission.{Admission}
pub use Rattle.rules.specs.declared.call.Call.{Call}
pub use Rattle.rules.specs.declared.call.Call.TheVariants.{Start, Admit, Ask, Deliver, HandBack, Leave, SetEstimate, SetClock}
pub use Rattle.rules.specs.declared.call.Answer.{Answer}
pub use Rattle.rules.specs.declared.call.Answer.TheVariants.{Done, Granted, Frame, Count}
use Rattle.rules.specs.Offers.{Meaning}
use Rattle.rules.specs.declared.refusal.Refusal.{Refusal}
use Rattle.rules.specs.declared.refusal.Refusal.TheVariants.{PoolOutOfRange, ClientOutOfRange, SharesOutOfRange, ClassOutOfRange, MaximumOutOfRange, AlreadyStarted, PassageOpen, AlreadyAdmitted, NotAdmitted, MaximumAboveFrames, MinimumsAboveFrames, AtMaximum, Outbid, HoldsNoFrame, ActiveAboveFrames, EndNotAfterClock, TickBeforeClock, NotTheOpenSlip}
use Rattle.rules.specs.Refusals.{Entry, entry, First, Clear, Outside}
use Rattle.laws.specs.ByNumber.{total, put}
use Rattle.laws.specs.Division.{minimum_of}
use Rattle.laws.specs.Broker.{Estimate, SlipNumbers, Client, Broker, present, holding, maximum_of, MayTake, IsOutbid}

abbrev pub Open : Broker → Type 0
Open b = b.passage ≡ None → ⊥

abbrev pub Absent : Broker → ℕ → Type 0
Absent b c = b.clients c ≡ None

abbrev pub passage_entry : Broker → Entry
passage_entry b = entry PassageOpen (Open b)

abbrev pub client_inputs : ℕ → List Entry
client_inputs c = entry ClientOutOfRange (Outside 1 256 c) ∷ []

abbrev pub inputs : Call → List Entry
inputs (Start unit frames) = entry PoolOutOfRange (Outside 1 4_096 frames ⊎ Outside 1 999 unit) ∷ []
inputs (Admit a) =
    client_inputs a.client
    ++ (entry SharesOutOfRange (Outside 1 1_000_000 a.shares)
    ∷ entry ClassOutOfRange (9 < a.class)
    ∷ entry MaximumOutOfRange ((a.maximum ≡ 0) ⊎ (a.maximum < a.minimum))
    ∷ [])
inputs (Ask c) = client_inputs c
inputs (Deliver s) = []
inputs (HandBack c) = client_inputs c
inputs (Leave c) = client_inputs c
inputs (SetEstimate c e) = client_inputs c
inputs (SetClock tick) = []

abbrev pub caller_states : Broker → ℕ → List Entry
caller_states b c = passage_entry b ∷ entry NotAdmitted (Absent b c) ∷ []

abbrev pub caller_entries : Broker → ℕ → List Entry
caller_entries b c = client_inputs c ++ caller_states b c

abbrev pub states : Broker → Call → List Entry
states b (Start unit frames) = entry AlreadyStarted (1 ≤ b.frames) ∷ []
states b (Admit a) =
    passage_entry b
    ∷ entry AlreadyAdmitted (Absent b a.client → ⊥)
    ∷ entry MaximumAboveFrames (b.frames < a.maximum)
    ∷ entry MinimumsAboveFrames (b.frames < total (minimum_of (present b)) + a.minimum)
    ∷ []
states b (Ask c) = caller_states b c ++ (entry AtMaximum (maximum_of b c ≤ holding b c) ∷ [])
states b (Deliver s) = entry NotTheOpenSlip (b.passage ≢ Some s) ∷ []
states b (HandBack c) = caller_states b c ++ (entry HoldsNoFrame (holding b c ≡ 0) ∷ [])
states b (Leave c) = caller_states b c
states b (SetEstimate c e) =
    caller_states b c
    ++ (entry ActiveAboveFrames (b.frames < e.active)
    ∷ entry EndNotAfterClock (e.end ≤ b.tick)
    ∷ [])
states b (SetClock tick) = passage_entry b ∷ entry TickBeforeClock (tick < b.tick) ∷ []

abbrev pub unpriced : Broker → Call → List Entry
unpriced b x = inputs x ++ states b x

-- The price alone says whether an ask is outbid.
abbrev pub priced : Meaning → Broker → Call → List Entry
priced m b (Ask c) = entry Outbid (IsOutbid m b c) ∷ []
priced m b x = []

abbrev pub entries : Meaning → Broker → Call → List Entry
entries m b x = unpriced b x ++ priced m b x

abbrev pub RefusedBy : Meaning → Broker → Call → Refusal → Type 0
RefusedBy m b x r = First (entries m b x) r

abbrev pub IsClear : Meaning → Broker → Call → Type 0
IsClear m b x = Clear (entries m b x)

abbrev pub newcomer : Admission → Client
newcomer a =
    record { shares = a.shares; class = a.class; minimum = a.minimum; maximum = a.maximum; estimate = None; stack = [] }

abbrev pub with_stack : Client → List ℕ → Client
with_stack x fs = record x { stack = fs }

abbrev pub with_estimate : Client → Option Estimate → Client
with_estimate x e = record x { estimate = e }

abbrev pub moved : Broker → List ℕ → (ℕ → Option Client) → Broker
moved b fs cs = record b { free = fs; clients = cs }

abbrev pub lasts : ℕ → Option Estimate → Option Estimate
lasts t (Some e) = cond (nat_le e.end t) None (Some e)
lasts t None = None

abbrev pub lasting : ℕ → Option Client → Option Client
lasting t (Some x) = Some (with_estimate x (lasts t x.estimate))
lasting t None = None

abbrev pub ended : ℕ → Option Estimate → ℕ
ended t (Some e) = cond (nat_le e.end t) 1 0
ended t None = 0

abbrev pub ends : ℕ → Option Client → ℕ
ends t (Some x) = ended t x.estimate
ends t None = 0

abbrev pub slip : Broker → ℕ → ℕ → ℕ → SlipNumbers
slip b c f p = record { unit = b.unit; client = c; frame = f; former = p; asks = (b.asks + 1) % 2 ^ 64 }

abbrev pub granted : Broker → ℕ → ℕ → ℕ → List ℕ → (ℕ → Option Client) → Broker
granted b c f p fs cs =
    record b { asks = (b.asks + 1) % 2 ^ 64; free = fs; clients = cs; passage = Some (slip b c f p) }

abbrev pub answered : {A : Type 0} → (A → Answer) → Result A Refusal → Result Answer Refusal
answered word result = result_map_both word (λ r. r) result

-- What an accepted call does, and what it is answered. Whether it is accepted is for `Step` to say.
pub data Effect (m : Meaning) (b : Broker) : Call → Answer → Broker → Type 0 where
  -- a start gives the broker its unit number and its frames, frame 1 on top of the free stack
  started : {u F : ℕ} → Effect m b (Start u F) Done (record b { unit = u; frames = F; free = range_with_len 1 F })
  -- a client starts with no frame and no estimate
  admitted : {a : Admission} → Effect m b (Admit a) Done (moved b b.free (put b.clients a.client (Some (newcomer a))))
  -- an ask takes the top of the free stack, where one is free
  granted_free : {c f : ℕ} {fs : List ℕ} {x : Client} → b.clients c ≡ Some x → b.free ≡ f ∷ fs →
      Effect m b (Ask c) (Granted (slip b c f 0))
      (granted b c f 0 fs (put b.clients c (Some (with_stack x (f ∷ x.stack)))))
  -- where none is, it takes the top of the lowest payer's stack
  granted_from : {c p f : ℕ} {fs : List ℕ} {x y : Client} →
      b.clients c ≡ Some x → b.free ≡ [] → MayTake m b c p → b.clients p ≡ Some y → y.stack ≡ f ∷ fs →
      Effect m b (Ask c) (Granted (slip b c f p))
      (granted b c f p [] (put (put b.clients p (Some (with_stack y fs))) c (Some (with_stack x (f ∷ x.stack)))))
  -- a delivery closes the passage
  delivered : {s : SlipNumbers} → Effect m b (Deliver s) Done (record b { passage = None })
  -- a hand-back moves the top of the client's stack onto the free stack
  handed_back : {c f : ℕ} {fs : List ℕ} {x : Client} → b.clients c ≡ Some x → x.stack ≡ f ∷ fs →
      Effect m b (HandBack c) (Frame f) (moved b (f ∷ b.free) (put b.clients c (Some (with_stack x fs))))
  -- a leaving client's frames go onto the free stack, its top first
  left : {c : ℕ} {x : Client} → b.clients c ≡ Some x →
      Effect m b (Leave c) (Count (length x.stack)) (moved b (reverse x.stack ++ b.free) (put b.clients c None))
  -- an estimate stands in place of an earlier one
  estimated : {c : ℕ} {e : Estimate} {x : Client} → b.clients c ≡ Some x →
      Effect m b (SetEstimate c e) Done (moved b b.free (put b.clients c (Some (with_estimate x (Some e)))))
  -- the clock drops every estimate that ends by its tick, and answers how many
  clocked : {t : ℕ} →
      Effect m b (SetClock t) (Count (total (λ c. ends t (b.clients c))))
      (record b { tick = t; clients = λ c. lasting t (b.clients c) })

pub data Step (m : Meaning) (b : Broker) : Call → Result Answer Refusal → Broker → Type 0 where
  -- a refused call changes nothing
  refused : {x : Call} {r : Refusal} → RefusedBy m b x r → Step m b x (Err r) b
  -- one that meets no refusal is accepted
  accepted : {x : Call} {a : Answer} {d : Broker} → IsClear m b x → Effect m b x a d → Step m b x (Ok a) d
