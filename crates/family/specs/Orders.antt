-- Steps of code on several brokers.
--
-- Renewed   the first k brokers were made new, each under its price
-- Called    a call was made on the broker at the order's place, and no other broker was touched
-- Obeyed    an order was performed on its broker, and no other broker was touched; or there is no such broker
use Rattle.std.specs.Prelude.{◌≡◌, ℕ, ◌<◌, ◌≤◌, List, length, Some, None, Result, slice_set}
use Rattle.rules.specs.declared.refusal.Refusal.{Refusal}
use Rattle.laws.specs.Broker.{new_broker}
use Rattle.laws.specs.Calls.{Answer}
use Rattle.price.specs.declared.price.Price.{Ghosts}
use Rattle.broker.specs.View.{view, Stepped}
use Rattle.broker.specs.declared.plain.PlainBroker.{PlainBroker}
use Rattle.broker.specs.Plain.{broker_of}
use Rattle.family.specs.Families.{Order, Outcome, At, price_of}

module _ {P : Type 0} {g : Ghosts P} where
  pub record Renewed (k : ℕ) (bs cs : List (PlainBroker P g)) : Type 0 where
    pub each : (i : ℕ) (b : PlainBroker P g) → At bs i b →
        (c : PlainBroker P g) × At cs i c × ((i < k → view (broker_of c) ≡ new_broker) × (price_of c ≡ price_of b))
    pub brokers : length cs ≡ length bs

  pub record Called (bs : List (PlainBroker P g)) (o : Order) (a : Result Answer Refusal)
      (cs : List (PlainBroker P g)) : Type 0 where
    pub before : PlainBroker P g
    pub after : PlainBroker P g
    pub there : At bs o.broker before
    pub called : Stepped (broker_of before) o.call a (broker_of after)
    pub others : cs ≡ slice_set bs o.broker after

  abbrev pub Obeyed : List (PlainBroker P g) → Order → Outcome → List (PlainBroker P g) → Type 0
  Obeyed bs o (Some a) cs = Called bs o a cs
  Obeyed bs o None cs = (length bs ≤ o.broker) × (cs ≡ bs)
