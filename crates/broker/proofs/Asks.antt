-- Asks: who is outbid, and where a frame comes from.
use Rattle.std.proofs.Common.{◌≡◌, ℕ, zero, suc, ◌+◌, ◌<◌, ◌≤◌, true, false, ◌≢◌, [], length, Some, None, Ok, Option, sym, refl, ap, ◌∙◌, subst, inl, inr, arith}
use Rattle.std.specs.Option.{IsSome}
use Rattle.std.proofs.lemmas.List.{nil_from_length}
use Rattle.rules.specs.Offers.{Meaning, Valid, Lawful}
use Rattle.rules.specs.declared.offer.Bid.{Bid}
use Rattle.rules.specs.Rank.{bid, above}
use Rattle.rules.specs.Refusals.{First, Clear}
use Rattle.rules.specs.declared.refusal.Refusal.TheVariants.{AtMaximum, Outbid}
use Rattle.rules.proofs.Named.{cleared, clear_after, first_after}
use Rattle.laws.specs.Broker as rules
use Rattle.laws.specs.Division.{terms, minimum_of, offer_of}
use Rattle.pool.specs.declared.pool.Pool.{Pool}
use Rattle.pool.specs.View.{view as pool-view}
use Rattle.laws.specs.Broker.{SlipNumbers, present, holding, LowestPayer, MayTake, IsOutbid}
use Rattle.laws.specs.Calls.{Ask, Granted, Step, accepted, entries, unpriced, priced, IsClear, granted_free, granted_from}
use Rattle.laws.proofs.Kept.{low_of, high_of, held_of}
use Rattle.ledger.specs.Ledgers.{stack_of}
use Rattle.heap.specs.Heaps.{Least}
use Rattle.price.specs.declared.price.Price.{Ghosts}
use Rattle.pool.specs.declared.member.Member.{Member}
use Rattle.pool.specs.Records.{offer_at}
use Rattle.pool.specs.Members.{member_of}
use Rattle.pool.specs.View.{client_with, IsSource, Grants}
use Rattle.pool.specs.View as grants
use Rattle.pool.proofs.Tables.{client_is}
use Rattle.price.specs.declared.bid.ValidBid.{ValidBid}
use Rattle.price.specs.Bids.{leads}
use Rattle.broker.specs.Bids.{bid_in}
use Rattle.broker.specs.View.{Broker, meaning, view}
use Rattle.broker.proofs.Lowest.{next_bid, outbid_by_nobody, lowest_is, next_ranks, is_outbid, not_itself}

-- where a frame may come from one lies
pub granted_some : {m : Meaning} {v : rules.Broker} {c : ℕ} (p : ℕ) {o : Option SlipNumbers} {w : rules.Broker} → v.clients 0 ≡ None → Grants v c p o w → IsSource m v c p × (p ≢ c) → IsSome o
granted_some p nobody (grants.free it top) from = refl
granted_some p nobody (grants.from off it its top) from = refl
granted_some p nobody (grants.nothing none) (inl (z, some), ne) = absurd (some (rw z at (none ne)))
granted_some zero nobody (grants.nothing none) (inr (_, may), ne) = absurd (omega (arith, may.0.beyond, ap held_of nobody))
granted_some (suc p) nobody (grants.nothing none) (inr (_, may), ne) = absurd (omega (arith, may.0.beyond, ap length (none ne)))

-- a frame that was granted from where it may come from is a step
pub grant_step : {m : Meaning} {v : rules.Broker} {c p : ℕ} {s : SlipNumbers} {w : rules.Broker} → v.clients 0 ≡ None → Grants v c p (Some s) w → IsClear m v (Ask c) × (IsSource m v c p × (p ≢ c)) → Step m v (Ask c) (Ok (Granted s)) w
grant_step nobody (grants.free it top) (clear, (inl (z, some), ne)) = accepted clear (granted_free it top)
grant_step nobody (grants.free it top) (clear, (inr (none, may), ne)) = cc
grant_step nobody (grants.from off it its top) (clear, (inl (z, some), ne)) = cc
grant_step {m} {v} nobody (grants.from off it its top) (clear, (inr (none, may), ne)) = subst (Step m v (Ask _) (Ok (Granted _))) (cc) (accepted clear (granted_from it none may its top))

-- it opens the passage of its slip, and took no frame of its own
pub grant_opens : {v : rules.Broker} {c p : ℕ} {s : SlipNumbers} {w : rules.Broker} → Grants v c p (Some s) w → p ≢ c → (w.passage ≡ Some s) × (s.former ≢ c)
grant_opens (grants.free it top) ne = (refl, ne)
grant_opens (grants.from off it its top) ne = (refl, ne)

-- at every count of frames the offer of a client is one that a client can make
offer_valid : (b : Pool) (c : ℕ) (x : Member) → member_of b.members c ≡ Some x → (k : ℕ) → 1 ≤ k → k ≤ 4_096 → Valid (offer_of (terms (present (pool-view b) c)) k)
offer_valid b c x e k low high =
    rw e (record {
      some_shares = x.some_shares;
      few_shares = x.few_shares;
      low_class = x.low_class;
      small_active = x.small_active;
      some_frame = low;
      few_frames = high;
    })

module _ {P : Type 0} {g : Ghosts P} (b : Broker P g) (c : ℕ) (clear : Clear (unpriced (view b) (Ask c))) (none_free : length (view b).free ≡ 0) where
  abbrev m : Meaning
  m = meaning b

  free : (view b).free ≡ []
  free = nil_from_length (view b).free none_free

  -- a client that is refused for nothing else is outbid
  last_refused : IsOutbid m (view b) c → First (entries m (view b) (Ask c)) Outbid
  last_refused o = first_after (unpriced (view b) (Ask c)) (priced m (view b) (Ask c)) Outbid clear (inl (o, refl))

  pub nobody_lower : ((o : ℕ) → bid_in b.bids o ≡ None) → First (entries m (view b) (Ask c)) Outbid
  nobody_lower none = last_refused (outbid_by_nobody m (view b) (bid_in b.bids) b.kept none c free)

  module _ (k : ValidBid) (found : (o : ℕ) × Least leads (bid_in b.bids) o k) {x : Member} (e : member_of b.pool.members c ≡ Some x) {h : ℕ} (held : h ≡ holding (view b) c) where
    lowest : LowestPayer m (view b) k.bid.client
    lowest = lowest_is m (view b) (bid_in b.bids) b.kept k found

    -- the asker
    it : (view b).clients c ≡ Some (client_with x (stack_of b.pool.ledger c))
    it = client_is b.pool c x e

    abbrev From : Type 0
    From = IsClear m (view b) (Ask c) × (IsSource m (view b) c k.bid.client × (k.bid.client ≢ c))

    from_payer : Lawful m → MayTake m (view b) c k.bid.client → From
    from_payer l may =
        let few : holding (view b) c + 1 ≤ 4_096 = omega (arith, cleared (unpriced (view b) (Ask c)) AtMaximum clear, ap high_of it, x.few_frames) in
        let other : k.bid.client ≢ c = λ q. not_itself m (view b) l c (offer_valid b.pool c x e) few (rw q at may) in
        (clear_after (unpriced (view b) (Ask c)) (priced m (view b) (Ask c)) clear (λ o. o.1 k.bid.client may, tt), (inr (free, may), other))

    -- below its minimum a client takes a frame of the lowest payer
    pub taken_below : Lawful m → h < x.minimum → From
    taken_below l low = from_payer l (lowest, inl (omega (arith, held, ap low_of it, low)))

    module _ {j : Bid} (made : j ≡ bid m c x.minimum (offer_at x (h + 1))) where
      -- the asker's bid for a frame more
      next : j ≡ next_bid m (view b) c
      next = let tall = held ∙ ap held_of it in rw (minimum_of, e, ← tall) made

      pub outbid_by_lowest : x.minimum ≤ h → above j k.bid ≡ false → First (entries m (view b) (Ask c)) Outbid
      outbid_by_lowest low under = last_refused (is_outbid m (view b) (bid_in b.bids) b.kept k found c next (omega (arith, held, ap low_of it, low)) under free)

      pub taken_above : Lawful m → above j k.bid ≡ true → From
      taken_above l over = from_payer l (lowest, inr (sym (next_ranks m (view b) (bid_in b.bids) b.kept k found c next) ∙ over))
