-- What the bids say of the broker that the rules speak of.
use Rattle.std.proofs.Common.{◌≡◌, ℕ, ◌+◌, ◌<◌, ◌≤◌, false, ◌≢◌, ◌⊎◌, [], Some, None, MatchOption, Option, sym, refl, ap, ◌∙◌, subst, inl, inr, arith}
use Rattle.std.proofs.lemmas.Bool.{not-true, both_ways}
use Rattle.rules.specs.Offers.{Meaning, Valid, Lawful}
use Rattle.rules.specs.declared.offer.Bid.{Bid}
use Rattle.rules.specs.Rank.{above, Above}
use Rattle.rules.proofs.RankIsOneOrder.{rank_is_one_order}
use Rattle.laws.specs.Division.{terms, minimum_of, offer_of, bid_of}
use Rattle.laws.specs.Broker.{Broker, terms_of, new_broker, present, holding, Beyond, LowestPayer, MayTake, IsOutbid}
use Rattle.laws.specs.Questions.{LowestIs}
use Rattle.laws.proofs.Puts.{each_but}
use Rattle.laws.proofs.One.{one_payer}
use Rattle.heap.specs.Heaps.{Least}
use Rattle.price.specs.declared.bid.ValidBid.{ValidBid}
use Rattle.price.specs.Bids.{leads}
use Rattle.broker.specs.declared.bids.Bids.{Bids}
use Rattle.broker.specs.Bids.{bid_in, IsBid, AreBids, Renews, IsLowest}

module _ (m : Meaning) (v : Broker) where
  -- the bid of a client at its holding, and for a frame more
  abbrev pub bid : ℕ → Bid
  bid c = bid_of m (present v) c (holding v c)

  abbrev pub next_bid : ℕ → Bid
  next_bid c = bid_of m (present v) c (holding v c + 1)

  -- who holds more than its minimum has its bid in
  has_bid : (c : ℕ) (o : Option ValidBid) → IsBid m v c o → Beyond v c → (k : ValidBid) × (o ≡ Some k) × (k.bid ≡ bid c)
  has_bid c None l g = absurd (l g)
  has_bid c (Some k) l g = (k, refl, l.1)

  module _ (ks : ℕ → Option ValidBid) (all : AreBids m v ks) where
    -- whose bid is in holds more than its minimum
    bid_of_in : (c : ℕ) (k : ValidBid) → ks c ≡ Some k → Beyond v c × (k.bid ≡ bid c)
    bid_of_in c k e = rw e at (all c)

    nobody_pays : ((o : ℕ) → ks o ≡ None) → (c : ℕ) → Beyond v c → ⊥
    nobody_pays none c = rw (none c) at (all c)

    pub outbid_by_nobody : ((o : ℕ) → ks o ≡ None) → (c : ℕ) → v.free ≡ [] → IsOutbid m v c
    outbid_by_nobody none c e = (e, λ p t. nobody_pays none p t.0.beyond)

    module _ (k : ValidBid) (found : (o : ℕ) × Least leads ks o k) where
      -- the lowest bid says whose it is
      least : Least leads ks k.bid.client k
      least = subst (λ (n : ℕ). Least leads ks n k) (sym (ap (λ b. b.client) (bid_of_in found.0 k found.1.has).1)) found.1

      pub lowest_is : LowestPayer m v k.bid.client
      lowest_is =
          let (beyond, own) = bid_of_in k.bid.client k least.has in
          record {
            beyond = beyond;
            lowest = λ d g.
                let (j, e, u) = has_bid d (ks d) (all d) g in
                rw (← own, ← u) (not-true (above k.bid j.bid) (least.leads d j e));
          }

      module _ (c : ℕ) {j : Bid} (next : j ≡ next_bid c) where
        -- the rank of a client's next bid over the lowest is that of the rules
        pub next_ranks : above j k.bid ≡ above (next_bid c) (bid k.bid.client)
        next_ranks = rw (← next, ← (bid_of_in k.bid.client k least.has).1) refl

        pub is_outbid : minimum_of (present v) c ≤ holding v c → above j k.bid ≡ false → v.free ≡ [] → IsOutbid m v c
        is_outbid low under e = (e, λ q t. refuse q t.0 t.1)
          where
            refuse : (q : ℕ) → LowestPayer m v q → (holding v c < minimum_of (present v) c) ⊎ Above (next_bid c) (bid q) → ⊥
            refuse q l (inl g) = omega arith
            refuse q l (inr g) = both_ways (above j k.bid) under (next_ranks ∙ rw (one_payer m v q k.bid.client l lowest_is) at g)

    -- the client of the lowest bid, where there is one, is the lowest payer
    pub lowest_told : (o : Option ValidBid) (r : Option ℕ) → IsLowest ks o →
        MatchOption o (r ≡ None) (λ k. r ≡ Some k.bid.client) → LowestIs m v r
    lowest_told (Some k) r found told = rw told (lowest_is k found)
    lowest_told None r none told = rw told (nobody_pays none)

  -- who may take a frame does not take it from itself
  pub not_itself : Lawful m → (c : ℕ) → ((k : ℕ) → 1 ≤ k → k ≤ 4_096 → Valid (offer_of (terms (present v c)) k)) → holding v c + 1 ≤ 4_096 → MayTake m v c c → ⊥
  not_itself l c made few (lowest, inl g) = let far = lowest.beyond in omega arith
  not_itself l c made few (lowest, inr g) =
      let far = lowest.beyond in
      let now = made (holding v c) (omega arith) (omega arith) in
      let next = made (holding v c + 1) (omega arith) few in
      rank_is_one_order.one_way (next_bid c) (bid c) g
      (rank_is_one_order.own_fall m l c (minimum_of (present v) c) (offer_of (terms (present v c)) (holding v c)) (holding v c) (holding v c + 1) now next (omega arith))

-- a client's bid depends on that client alone
pub same_bid : (m : Meaning) (v w : Broker) (c : ℕ) → w.clients c ≡ v.clients c → (o : Option ValidBid) → IsBid m v c o → IsBid m w c o
same_bid m v w c e None l = rw (e, minimum_of, terms_of) l
same_bid m v w c e (Some k) l = rw (e, minimum_of, terms_of, terms) l

-- where all other bids are right, and one is renewed, all are
pub renewed : {m : Meaning} {w : Broker} {c : ℕ} {p q : Bids} → Renews m w c p q → ((d : ℕ) → d ≢ c → IsBid m w d (bid_in p d)) → AreBids m w (bid_in q)
renewed {m} {w} {c} {p} {q} r others = each_but c (λ d. IsBid m w d (bid_in q d)) r.anew (λ d ne. rw (r.others d ne) (others d ne))

pub no_bids : (m : Meaning) (ks : ℕ → Option ValidBid) → ((c : ℕ) → ks c ≡ None) → AreBids m new_broker ks
no_bids m ks none c = rw (none c) (omega arith)
