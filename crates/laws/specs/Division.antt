-- The settled division of frames among clients with their terms.
--
-- Terms           a client's shares, class, minimum, maximum, and active count or none
-- Clients         the clients' terms by their numbers, where a number has a client
-- terms           a client's terms; a number without a client counts as one with terms of 0
-- minimum_of      a client's minimum
-- capped          a client's maximum, or the number of frames where that is less
-- offer_of        the offer of a client with these terms at a count
-- bid_of          a client's bid at a count, under a price
-- Settled         the counts are the settled division of F frames under a price
-- Admissible      a client may have this number and these terms
-- AllAdmissible   so may every client of these
use Rattle.std.specs.Prelude.{◌≡◌, ℕ, ◌+◌, ◌^◌, ◌<◌, ◌≤◌, min, ◌≢◌, Some, None, Option}
use Rattle.rules.specs.declared.offer.Offer.{Offer}
use Rattle.rules.specs.declared.offer.Bid.{Bid}
use Rattle.rules.specs.Offers.{Meaning}
use Rattle.rules.specs.Rank.{bid, Above}
use Rattle.laws.specs.ByNumber.{total, Numbered}

pub record Terms : Type 0 where
  pub shares : ℕ
  pub class : ℕ
  pub minimum : ℕ
  pub maximum : ℕ
  pub active : Option ℕ

abbrev pub Clients : Type 0
Clients = ℕ → Option Terms

abbrev pub terms : Option Terms → Terms
terms (Some t) = t
terms None = record { shares = 0; class = 0; minimum = 0; maximum = 0; active = None }

abbrev pub minimum_of : Clients → ℕ → ℕ
minimum_of cs c = (terms (cs c)).minimum

abbrev pub capped : ℕ → Clients → ℕ → ℕ
capped F cs c = min (terms (cs c)).maximum F

abbrev pub offer_of : Terms → ℕ → Offer
offer_of t k = record { shares = t.shares; class = t.class; active = t.active; count = k }

abbrev pub bid_of : Meaning → Clients → ℕ → ℕ → Bid
bid_of m cs c k = bid m c (minimum_of cs c) (offer_of (terms (cs c)) k)

-- A division by the exchange of single frames (Balinski and Young's rank-index methods): nobody would gain by one.
pub record Settled (m : Meaning) (F : ℕ) (cs : Clients) (n : ℕ → ℕ) : Type 0 where
  -- each client has its minimum
  pub from : (c : ℕ) → minimum_of cs c ≤ n c
  -- and no more than its maximum
  pub to : (c : ℕ) → n c ≤ capped F cs c
  -- all frames are given, or all that the clients may have
  pub sum : total n ≡ min F (total (capped F cs))
  -- what one client has beyond its minimum ranks above what another below its maximum would get next
  pub ranked : (c d : ℕ) → c ≢ d → minimum_of cs c < n c → n d < capped F cs d →
      Above (bid_of m cs c (n c)) (bid_of m cs d (n d + 1))

pub record Admissible (c : ℕ) (t : Terms) : Type 0 where
  pub numbered : Numbered c
  pub some_shares : 1 ≤ t.shares
  pub few_shares : t.shares ≤ 1_000_000
  pub low_class : t.class ≤ 9
  pub small_active : (a : ℕ) → t.active ≡ Some a → a < 2 ^ 32

abbrev pub AllAdmissible : Clients → Type 0
AllAdmissible cs = (c : ℕ) (t : Terms) → cs c ≡ Some t → Admissible c t
