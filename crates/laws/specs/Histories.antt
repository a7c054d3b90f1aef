-- Histories: calls on one broker, one after another, with their answers.
--
-- Event             a call, what it is answered and the broker after it
-- event             such an event
-- Run               events, the latest first, that lead from one broker to another, each a step from the one before
-- reached           the broker that events have led to from a broker
-- Each              something holds of each event
-- Throughout        something holds of the broker at each moment: at the start, and after each event
-- smallest          the smallest number that the broker has at these moments
-- IsAccepted, IsRefused   what an answer says
-- grant, grants     how many asks are accepted by an answer, by the answers of events: those answered by a slip
-- AskOrDelivery     the call is an ask or a delivery
-- AcceptsOnlyAsks   nothing but asks and deliveries is accepted
-- TurnsAway         the event is an ask of the client that is refused as at its maximum or as outbid
-- TurnedAway        the client has been turned away since the last call accepted
-- AtRest            every client admitted now has been
-- Keeps             the event is no accepted hand-back of the client, and it does not leave by it
use Rattle.std.specs.Prelude.{◌≡◌, ℕ, ◌+◌, min, ◌≢◌, ◌⊎◌, List, [], ◌∷◌, Some, Ok, Err, Result}
use Rattle.rules.specs.Offers.{Meaning}
use Rattle.rules.specs.declared.refusal.Refusal.{Refusal}
use Rattle.rules.specs.declared.refusal.Refusal.TheVariants.{AtMaximum, Outbid}
use Rattle.laws.specs.Broker.{Client, Broker}
use Rattle.laws.specs.Calls.{Call, Start, Admit, Ask, Deliver, HandBack, Leave, SetEstimate, SetClock, Answer, Done, Granted, Frame, Count, Step}

pub record Event : Type 0 where
  pub call : Call
  pub answer : Result Answer Refusal
  pub after : Broker

abbrev pub event : Call → Result Answer Refusal → Broker → Event
event x a d = record { call = x; answer = a; after = d }

-- From a new broker a run is a history; any part of one is a run from the broker that it begins at, a stretch.
pub data Run (m : Meaning) (b : Broker) : List Event → Broker → Type 0 where
  start : Run m b [] b
  then : {x : Call} {a : Result Answer Refusal} {d e : Broker} {h : List Event} →
      Run m b h d → Step m d x a e → Run m b (event x a e ∷ h) e

abbrev pub reached : Broker → List Event → Broker
reached b [] = b
reached b (e ∷ h) = e.after

abbrev pub Each : (Event → Type 0) → List Event → Type 0
Each P [] = Unit {0}
Each P (e ∷ h) = P e × Each P h

abbrev pub Throughout : (Broker → Type 0) → Broker → List Event → Type 0
Throughout P b [] = P b
Throughout P b (e ∷ h) = P e.after × Throughout P b h

unfoldable pub smallest : (Broker → ℕ) → Broker → List Event → ℕ
smallest f b [] = f b
smallest f b (e ∷ h) = min (f e.after) (smallest f b h)

abbrev pub IsAccepted : Result Answer Refusal → Type 0
IsAccepted (Ok a) = Unit {0}
IsAccepted (Err r) = ⊥

abbrev pub IsRefused : Result Answer Refusal → Type 0
IsRefused a = IsAccepted a → ⊥

abbrev pub grant : Result Answer Refusal → ℕ
grant (Ok Done) = 0
grant (Ok (Granted s)) = 1
grant (Ok (Frame f)) = 0
grant (Ok (Count n)) = 0
grant (Err r) = 0

unfoldable pub grants : List Event → ℕ
grants [] = 0
grants (e ∷ h) = grant e.answer + grants h

abbrev pub AskOrDelivery : Call → Type 0
AskOrDelivery (Start u F) = ⊥
AskOrDelivery (Admit a) = ⊥
AskOrDelivery (Ask c) = Unit {0}
AskOrDelivery (Deliver s) = Unit {0}
AskOrDelivery (HandBack c) = ⊥
AskOrDelivery (Leave c) = ⊥
AskOrDelivery (SetEstimate c e) = ⊥
AskOrDelivery (SetClock t) = ⊥

abbrev pub AcceptsOnlyAsks : List Event → Type 0
AcceptsOnlyAsks h = Each (λ e. IsAccepted e.answer → AskOrDelivery e.call) h

abbrev pub TurnsAway : ℕ → Event → Type 0
TurnsAway c e = (e.call ≡ Ask c) × ((e.answer ≡ Err AtMaximum) ⊎ (e.answer ≡ Err Outbid))

abbrev pub TurnedAway : ℕ → List Event → Type 0
TurnedAway c [] = ⊥
TurnedAway c (e ∷ h) = TurnsAway c e ⊎ (IsRefused e.answer × TurnedAway c h)

abbrev pub AtRest : Broker → List Event → Type 0
AtRest b h = (c : ℕ) (x : Client) → (reached b h).clients c ≡ Some x → TurnedAway c h

abbrev pub Keeps : ℕ → Event → Type 0
Keeps c e = IsAccepted e.answer → (e.call ≢ HandBack c) × (e.call ≢ Leave c)
