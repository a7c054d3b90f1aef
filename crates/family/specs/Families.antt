-- Several brokers, each under a price of its own, and orders performed on them.
--
-- Order         as in the code: a call, and the place of the broker that it is for
-- Outcome       as in the code: what the order's broker answers, or none where no broker is at its place
-- At            what stands in a list at a place
-- Brokers       brokers by their places
-- FamilyRun     orders performed one after the other on these brokers, each under the price at its place, with their
--               outcomes, and the events of each broker alone, the latest first
-- FamiliesKeepGuarantees    of several brokers each alone keeps the three guarantees
-- price_of      the price of a broker
-- meanings      what the prices of several brokers tell
-- StandsAlone   a broker alone, under a price that is lawful: these events lead from a new broker to it as it is now, and
--               keep the three guarantees
-- Performed     orders were performed on new brokers under the prices of these, and their outcomes written into the first
--               places; what stands beyond them stays
use Rattle.std.specs.Prelude.{◌≡◌, ℕ, ◌≤◌, List, [], ◌∷◌, ◌++◌, length, map, take, drop, Some, None, Option, Result}
use Rattle.std.specs.List.{slice_get}
use Rattle.rules.specs.declared.refusal.Refusal.{Refusal}
use Rattle.rules.specs.Offers.{Meaning, Lawful}
use Rattle.laws.specs.ByNumber.{put}
use Rattle.laws.specs.Broker.{Broker, new_broker}
use Rattle.laws.specs.Calls.{Answer, Step}
use Rattle.laws.specs.Histories.{Event, event, Run, reached}
use Rattle.laws.specs.Guarantees.{Guarantees}
use Rattle.price.specs.declared.price.Price.{Ghosts}
use Rattle.broker.specs.View.{view}
use Rattle.broker.specs.declared.plain.PlainBroker.{PlainBroker}
use Rattle.broker.specs.Plain.{broker_of}
pub use Rattle.family.specs.declared.orders.Order.{Order}

abbrev pub Outcome : Type 0
Outcome = Option (Result Answer Refusal)

abbrev pub At : {A : Type 0} → List A → ℕ → A → Type 0
At xs i x = slice_get xs i ≡ Some x

abbrev pub Brokers : Type 0
Brokers = ℕ → Broker

pub data FamilyRun (ms : List Meaning) (bs : Brokers) : List Order → List Outcome → (ℕ → List Event) → Type 0 where
  begin : FamilyRun ms bs [] [] (λ _. [])
  -- an order is a step of the broker at its place, and of no other
  next : {os : List Order} {rs : List Outcome} {hs : ℕ → List Event} {m : Meaning} {a : Result Answer Refusal} {d : Broker} →
      (o : Order) → FamilyRun ms bs os rs hs →
      At ms o.broker m → Step m (reached (bs o.broker) (hs o.broker)) o.call a d →
      FamilyRun ms bs (os ++ o ∷ []) (rs ++ Some a ∷ []) (put hs o.broker (event o.call a d ∷ hs o.broker))
  -- one without a broker at its place is a step of none
  nowhere : {os : List Order} {rs : List Outcome} {hs : ℕ → List Event} →
      (o : Order) → FamilyRun ms bs os rs hs → length ms ≤ o.broker →
      FamilyRun ms bs (os ++ o ∷ []) (rs ++ None ∷ []) hs

abbrev pub FamiliesKeepGuarantees : Type 0
FamiliesKeepGuarantees =
    (ms : List Meaning) → ((i : ℕ) (m : Meaning) → At ms i m → Lawful m) →
    (os : List Order) (rs : List Outcome) (hs : ℕ → List Event) → FamilyRun ms (λ _. new_broker) os rs hs →
    (i : ℕ) (m : Meaning) → At ms i m → Run m new_broker (hs i) (reached new_broker (hs i)) × Guarantees m (hs i)

module _ {P : Type 0} {g : Ghosts P} where
  abbrev pub price_of : PlainBroker P g → P
  price_of b = (broker_of b).price

  abbrev pub meanings : List (PlainBroker P g) → List Meaning
  meanings bs = map (λ b. g.meaning (price_of b)) bs

  pub record StandsAlone (p : P) (h : List Event) (b : PlainBroker P g) : Type 0 where
    pub lawful : Lawful (g.meaning p)
    pub price : price_of b ≡ p
    pub led : Run (g.meaning p) new_broker h (view (broker_of b))
    pub guarantees : Guarantees (g.meaning p) h

  pub record Performed (bs : List (PlainBroker P g)) (os : List Order) (before : List Outcome)
      (cs : List (PlainBroker P g)) (after : List Outcome) : Type 0 where
    pub events : ℕ → List Event
    pub run : FamilyRun (meanings bs) (λ _. new_broker) os (take (length os) after) events
    pub each : (i : ℕ) (b : PlainBroker P g) → At bs i b →
        (c : PlainBroker P g) × At cs i c × StandsAlone (price_of b) (events i) c
    pub brokers : length cs ≡ length bs
    pub beyond : drop (length os) after ≡ drop (length os) before
