-- A broker as the value that the rules speak of.
--
-- Broker       as in the code
-- meaning      what its price tells of every offer
-- view         the broker as the rules speak of it
-- History      events that lead from a new broker to this one, the latest first
-- Led          a history leads to this broker
-- Guaranteed   whatever is called on a new broker, its history keeps the three guarantees
-- Opens        the slip of a client's ask opened its passage, and took no frame of its own
-- delivered    the answer to a delivery
-- Stepped      a call on a broker is a step of the rules, and leaves the price
-- IsPriceAt    the price of a client at a count
-- DropsSoFar   estimates that end by a tick were dropped, so many, and nothing else was changed
-- DropsAll     so were all of them
-- FindsSource  where the frame of an ask comes from, or why there is none
use Rattle.std.specs.Prelude.{◌≡◌, ℕ, ◌≢◌, List, ◌∷◌, Some, Result}
use Rattle.std.specs.Result.{result_map_both}
use Rattle.rules.specs.declared.offer.Quote.{Quote}
use Rattle.rules.specs.Offers.{Meaning}
use Rattle.rules.specs.Refusals.{Replies}
use Rattle.rules.specs.declared.refusal.Refusal.{Refusal}
use Rattle.laws.specs.Broker as rules
use Rattle.laws.specs.Broker.{SlipNumbers}
use Rattle.laws.specs.Calls.{Call, Ask, Answer, Done, Step, moved, ends, entries}
use Rattle.laws.specs.Questions.{price_at}
use Rattle.laws.specs.Histories.{Event, event, Run}
use Rattle.laws.specs.Guarantees.{Guarantees}
use Rattle.price.specs.declared.price.Price.{Ghosts}
use Rattle.pool.specs.View as pool
use Rattle.pool.specs.View.{IsSource}
use Rattle.pool.specs.Clocks.{DropsMany}
use Rattle.broker.specs.declared.slip.Undelivered.{Undelivered}
pub use Rattle.broker.specs.declared.broker.Broker.{Broker}

abbrev pub History : Meaning → List Event → rules.Broker → Type 0
History m h b = Run m rules.new_broker h b

-- Every history from a new broker under this price keeps the three guarantees.
abbrev pub Guaranteed : Meaning → Type 0
Guaranteed m = (h : List Event) (b : rules.Broker) → History m h b → Guarantees m h

abbrev pub delivered : Result (Unit {0}) Undelivered → Result Answer Refusal
delivered result = result_map_both (λ _. Done) (λ u. u.refusal) result

module _ {P : Type 0} {g : Ghosts P} where
  abbrev pub meaning : Broker P g → Meaning
  meaning b = g.meaning b.price

  abbrev pub view : Broker P g → rules.Broker
  view b = pool.view b.pool

  -- A broker is made new, and then nothing but its calls changes it, so some events always lead to it.
  abbrev pub Led : List Event → Broker P g → Type 0
  Led h b = History (meaning b) h (view b)

  abbrev pub Opens : ℕ → SlipNumbers → Broker P g → Type 0
  Opens c s after = ((view after).passage ≡ Some s) × (s.former ≢ c)

  -- A call may come in any history: whatever history led to the broker as it came, with this call and its answer leads
  -- to the broker as it is left, and keeps the three guarantees.
  pub record Stepped (before : Broker P g) (x : Call) (a : Result Answer Refusal) (after : Broker P g) : Type 0 where
    pub step : Step (meaning before) (view before) x a (view after)
    pub price : after.price ≡ before.price
    pub history : (h : List Event) → Led h before → Led (event x a (view after) ∷ h) after
    pub guarantees : (h : List Event) → Led h before → Guarantees (meaning after) (event x a (view after) ∷ h)

  abbrev pub IsPriceAt : Broker P g → ℕ → ℕ → Quote → Type 0
  IsPriceAt b c count q = q ≡ price_at (meaning b) (view b) c count

  pub record DropsSoFar (t : ℕ) (before : Broker P g) (n : ℕ) (after : Broker P g) : Type 0 where
    pub price : after.price ≡ before.price
    pub rest : view after ≡ moved (view before) (view before).free (view after).clients
    pub many : DropsMany t (view before).clients n (view after).clients

  abbrev pub DropsAll : ℕ → Broker P g → ℕ → Broker P g → Type 0
  DropsAll t before n after = DropsSoFar t before n after × ((c : ℕ) → ends t ((view after).clients c) ≡ 0)

  abbrev pub FindsSource : Broker P g → ℕ → Result ℕ Refusal → Type 0
  FindsSource b c r =
      Replies (entries (meaning b) (view b) (Ask c)) (λ p. IsSource (meaning b) (view b) c p × (p ≢ c)) r
