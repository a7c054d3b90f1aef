-- The broker as a value: its pool, its clients, its clock and its open passage.
--
-- Estimate, SlipNumbers   as in the code: an active count with its end; the five numbers of a slip
-- Client           a client admitted: its terms, its estimate or none, and its stack of frames, the top first
-- Broker           unit, frames, tick, count of accepted asks, free stack (the top first), clients by number, and the
--                  open passage
-- new_broker       no frames, no clients, tick 0
-- active_of        the active count of an estimate, where there is one
-- terms_of         a client's terms as they are now, with its active count where an estimate is in force
-- stack_of         a client's stack; empty where there is no client
-- present          the present terms of all clients
-- holding          how many frames a client has
-- maximum_of       its maximum
-- shares_of        its shares
-- all_shares       the shares of all clients admitted now
-- share_of         its proportional share of the frames, rounded down
-- MinimumsWithin   every minimum is within its client's proportional share
-- holder_bid       a client's bid at its holding
-- asker_bid        a client's bid at one frame more than it holds
-- Beyond           the client holds more than its minimum
-- LowestPayer      a client that holds more than its minimum, and whose bid for what it holds ranks above that of no
--                  other such client
-- MayTake          a client may take a frame of the lowest payer
-- IsOutbid         no frame is free, and the client may take none
use Rattle.std.specs.Prelude.{◌≡◌, ℕ, ◌+◌, ◌*◌, ◌/◌, ◌<◌, ◌≤◌, false, ◌⊎◌, List, [], length, Some, None, Option}
pub use Rattle.rules.specs.declared.call.Estimate.{Estimate}
pub use Rattle.rules.specs.declared.call.SlipNumbers.{SlipNumbers}
use Rattle.rules.specs.Offers.{Meaning}
use Rattle.rules.specs.declared.offer.Bid.{Bid}
use Rattle.rules.specs.Rank.{Above, above}
use Rattle.laws.specs.ByNumber.{total}
use Rattle.laws.specs.Division.{Terms, Clients, terms, minimum_of, bid_of}

pub record Client : Type 0 where
  pub shares : ℕ
  pub class : ℕ
  pub minimum : ℕ
  pub maximum : ℕ
  pub estimate : Option Estimate
  pub stack : List ℕ

-- Clients have numbers from 1 to 256; every other number has none.
pub record Broker : Type 0 where
  pub unit : ℕ
  pub frames : ℕ
  pub tick : ℕ
  pub asks : ℕ
  pub free : List ℕ
  pub clients : ℕ → Option Client
  pub passage : Option SlipNumbers

abbrev pub new_broker : Broker
new_broker = record { unit = 0; frames = 0; tick = 0; asks = 0; free = []; clients = λ _. None; passage = None }

abbrev pub active_of : Option Estimate → Option ℕ
active_of (Some e) = Some e.active
active_of None = None

abbrev pub terms_of : Option Client → Option Terms
terms_of (Some x) =
    Some (record { shares = x.shares; class = x.class; minimum = x.minimum; maximum = x.maximum; active = active_of x.estimate })
terms_of None = None

abbrev pub stack_of : Option Client → List ℕ
stack_of (Some x) = x.stack
stack_of None = []

abbrev pub present : Broker → Clients
present b c = terms_of (b.clients c)

abbrev pub holding : Broker → ℕ → ℕ
holding b c = length (stack_of (b.clients c))

abbrev pub maximum_of : Broker → ℕ → ℕ
maximum_of b c = (terms (present b c)).maximum

abbrev pub shares_of : Broker → ℕ → ℕ
shares_of b c = (terms (present b c)).shares

abbrev pub all_shares : Broker → ℕ
all_shares b = total (shares_of b)

abbrev pub share_of : Broker → ℕ → ℕ
share_of b c = b.frames * shares_of b c / all_shares b

-- Compared exactly, by products.
abbrev pub MinimumsWithin : Broker → Type 0
MinimumsWithin b = (c : ℕ) → minimum_of (present b) c * all_shares b ≤ b.frames * shares_of b c

abbrev pub Beyond : Broker → ℕ → Type 0
Beyond b c = minimum_of (present b) c < holding b c

abbrev pub holder_bid : Meaning → Broker → ℕ → Bid
holder_bid m b c = bid_of m (present b) c (holding b c)

abbrev pub asker_bid : Meaning → Broker → ℕ → Bid
asker_bid m b c = bid_of m (present b) c (holding b c + 1)

pub record LowestPayer (m : Meaning) (b : Broker) (p : ℕ) : Type 0 where
  pub beyond : Beyond b p
  pub lowest : (d : ℕ) → Beyond b d → above (holder_bid m b p) (holder_bid m b d) ≡ false

-- A client below its minimum may take one outright. Any other must outrank the lowest payer's bid at its holding by its
-- own bid at one frame more than it holds.
abbrev pub MayTake : Meaning → Broker → ℕ → ℕ → Type 0
MayTake m b c p =
    LowestPayer m b p × ((holding b c < minimum_of (present b) c) ⊎ Above (asker_bid m b c) (holder_bid m b p))

abbrev pub IsOutbid : Meaning → Broker → ℕ → Type 0
IsOutbid m b c = (b.free ≡ []) × ((p : ℕ) → MayTake m b c p → ⊥)
