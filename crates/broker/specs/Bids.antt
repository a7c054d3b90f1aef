-- The bids of the clients that hold more than their minimums.
--
-- Bids       as in the code
-- bid_in     the bid of a client, if it is in
-- IsLowest   the bid that no bid ranks below, or none where there are no bids
-- IsBid      a client's bid at its holding where it holds more than its minimum, and else none
-- AreBids    so it is for every number
-- Renews     one client's bid was renewed, and no other was touched
-- KeepsBids  the bids are those of a pool's clients
-- IsBid-prop, AreBids-prop, KeepsBids-prop   this is so in one way at most
use Rattle.std.specs.Prelude.{◌≡◌, ℕ, ◌≢◌, Some, None, Option}
use Rattle.std.specs.Coded.{Π_prop, ×_prop, le_prop}
use mathlib.Core.HLevel.{⊥_prop}
use Rattle.rules.specs.Offers.{Meaning}
use Rattle.rules.proofs.Bids.{Bid-set}
use Rattle.laws.specs.Division.{bid_of}
use Rattle.laws.specs.Broker as rules
use Rattle.laws.specs.Broker.{present, holding, Beyond}
use Rattle.heap.specs.Heaps.{Least}
use Rattle.heap.specs.Indexed.{keys_in}
use Rattle.price.specs.declared.bid.ValidBid.{ValidBid}
use Rattle.price.specs.Bids.{leads}
use Rattle.pool.specs.declared.pool.Pool.{Pool}
use Rattle.pool.specs.View.{view}
pub use Rattle.broker.specs.declared.bids.Bids.{Bids}

abbrev pub bid_in : Bids → ℕ → Option ValidBid
bid_in p = keys_in p.heap

abbrev pub IsLowest : (ℕ → Option ValidBid) → Option ValidBid → Type 0
IsLowest ks (Some k) = (c : ℕ) × Least leads ks c k
IsLowest ks None = (c : ℕ) → ks c ≡ None

abbrev pub IsBid : Meaning → rules.Broker → ℕ → Option ValidBid → Type 0
IsBid m v c None = Beyond v c → ⊥
IsBid m v c (Some k) = Beyond v c × (k.bid ≡ bid_of m (present v) c (holding v c))

abbrev pub AreBids : Meaning → rules.Broker → (ℕ → Option ValidBid) → Type 0
AreBids m v ks = (c : ℕ) → IsBid m v c (ks c)

pub record Renews (m : Meaning) (v : rules.Broker) (c : ℕ) (before after : Bids) : Type 0 where
  pub others : (d : ℕ) → d ≢ c → bid_in after d ≡ bid_in before d
  pub anew : IsBid m v c (bid_in after c)

abbrev pub KeepsBids : Meaning → Pool → Bids → Type 0
KeepsBids m b p = AreBids m (view b) (bid_in p)

-- A client's bid is so in one way at most, so that a broker can keep it.
IsBid-prop : (m : Meaning) (v : rules.Broker) (c : ℕ) (o : Option ValidBid) → IsProp (IsBid m v c o)
IsBid-prop m v c None = Π_prop (λ _. ⊥_prop)
IsBid-prop m v c (Some k) = ×_prop le_prop (Bid-set _ _)

AreBids-prop : (m : Meaning) (v : rules.Broker) (ks : ℕ → Option ValidBid) → IsProp (AreBids m v ks)
AreBids-prop m v ks = Π_prop (λ c. IsBid-prop m v c (ks c))

pub KeepsBids-prop : (m : Meaning) (b : Pool) (p : Bids) → IsProp (KeepsBids m b p)
KeepsBids-prop m b p = AreBids-prop m (view b) (bid_in p)
