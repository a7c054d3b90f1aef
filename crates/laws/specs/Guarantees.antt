-- What a broker guarantees over a history from a new broker.
--
-- room           how many frames the clients may still get, each up to its maximum
-- RestsSettled   the holdings are the settled division of the present terms and frames, and the only one
-- TellsShare     the price tells what the share price tells
-- Guarantees     the three guarantees, of one history
use Rattle.std.specs.Prelude.{◌≡◌, ℕ, ◌-◌, ◌≤◌, min, List, ◌∷◌, ◌++◌}
use Rattle.rules.specs.declared.offer.Offer.{Offer}
use Rattle.rules.specs.Offers.{Meaning, Valid}
use Rattle.rules.specs.Prices.{share}
use Rattle.laws.specs.ByNumber.{total}
use Rattle.laws.specs.Division.{Settled}
use Rattle.laws.specs.Broker.{Broker, new_broker, present, holding, maximum_of, share_of, MinimumsWithin}
use Rattle.laws.specs.Histories.{Event, reached, Each, Throughout, smallest, grants, AcceptsOnlyAsks, TurnsAway, AtRest, Keeps}

abbrev pub room : Broker → ℕ
room b = total (λ c. maximum_of b c - holding b c)

pub record RestsSettled (m : Meaning) (b : Broker) : Type 0 where
  pub settled : Settled m b.frames (present b) (holding b)
  pub only : (n : ℕ → ℕ) → Settled m b.frames (present b) n → (c : ℕ) → n c ≡ holding b c

abbrev pub TellsShare : Meaning → Type 0
TellsShare m = (o : Offer) → Valid o → m o ≡ share o

-- A history has its latest event first, so what is later stands before what is earlier.
pub record Guarantees (m : Meaning) (h : List Event) : Type 0 where
  -- While only asks and deliveries are accepted, no more asks are accepted than the clients had room for at the start
  -- of the stretch, each up to its maximum.
  pub asks_are_bounded : (later stretch earlier : List Event) → h ≡ later ++ (stretch ++ earlier) →
      AcceptsOnlyAsks stretch → grants stretch ≤ room (reached new_broker earlier)
  -- At rest the clients hold a settled division of the frames, and there is only one.
  pub one_resting_place : (later earlier : List Event) → h ≡ later ++ earlier →
      AtRest new_broker earlier → RestsSettled m (reached new_broker earlier)
  -- Under the share price, once an ask of a client was refused, as at its maximum or as outbid, its holding does not
  -- fall below the smallest of its proportional shares since then, rounded down; or below its maximum, where that is
  -- smaller still. This lasts until it hands a frame back or leaves, and while each minimum is within its client's
  -- proportional share.
  pub no_client_is_shorted : TellsShare m → (c : ℕ) (later since earlier : List Event) (e : Event) →
      h ≡ later ++ (since ++ (e ∷ earlier)) →
      TurnsAway c e → Each (Keeps c) since → Throughout MinimumsWithin e.after since →
      min (maximum_of (reached e.after since) c) (smallest (λ b. share_of b c) e.after since)
      ≤ holding (reached e.after since) c
