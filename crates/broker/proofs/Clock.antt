-- The clock, one ended estimate after another.
use Rattle.std.proofs.Common.{◌≡◌, ℕ, ◌+◌, ◌<◌, Some, None, Ok, Option, sym, ap, ◌∙◌, subst, arith}
use Rattle.rules.specs.Offers.{Lawful}
use Rattle.laws.specs.ByNumber.{total, put}
use Rattle.laws.specs.Broker as rules
use Rattle.laws.specs.Calls.{SetClock, Count, Step, IsClear, moved, ends, with_estimate}
use Rattle.laws.proofs.Puts.{put_off}
use Rattle.price.specs.declared.price.Price.{Ghosts}
use Rattle.pool.specs.Clocks.{DropsMany, DropsFrom, Drops, at_tick}
use Rattle.pool.proofs.Clocks.{many_one, many_falls, clock_step}
use Rattle.broker.specs.declared.bids.Bids.{Bids}
use Rattle.broker.specs.Bids.{bid_in, AreBids, Renews}
use Rattle.broker.specs.View.{Broker, meaning, view, DropsSoFar, DropsAll, Stepped}
use Rattle.broker.proofs.Lowest.{same_bid, renewed}
use Rattle.broker.proofs.Steps.{stepped}

-- where only clients change, and then again only clients, only clients have changed
only_clients : (v b w : rules.Broker) (cs : ℕ → Option rules.Client) → b ≡ moved v v.free b.clients → w ≡ moved b b.free cs → w ≡ moved v v.free w.clients
only_clients v b w cs e f = rw (f, e)

-- what is left to drop grows less
pub dropping_falls : {t : ℕ} {v w : rules.Broker} {c : ℕ} → DropsFrom t v c w → total (λ e. ends t (w.clients e)) < total (λ e. ends t (v.clients e))
dropping_falls {t} {v} {w} {c} x = rw x.after (omega (arith, many_falls t v.clients c x.client x.numbered x.there x.over))

module _ {P : Type 0} {g : Ghosts P} where
  module _ {t : ℕ} {before : Broker P g} {n : ℕ} {b : Broker P g} (sofar : DropsSoFar t before n b) where
    -- a look at the pool that finds no more to drop
    pub all_dropped : {d : Broker P g} → d.price ≡ b.price → Drops t (view b) None (view d) → DropsAll t before n d
    all_dropped price (same, none) = (
      record {
        price = price ∙ sofar.price;
        rest = subst (λ (w : rules.Broker). w ≡ moved (view before) (view before).free w.clients) (sym same) sofar.rest;
        many = subst (λ (w : rules.Broker). DropsMany t (view before).clients n w.clients) (sym same) sofar.many;
      },
      subst (λ (w : rules.Broker). (c : ℕ) → ends t (w.clients c) ≡ 0) (sym same) none,
    )

    pub dropping_one : {c : ℕ} {d : Broker P g} → DropsFrom t (view b) c (view d) → d.price ≡ b.price → DropsSoFar t before (n + 1) d
    dropping_one {c} {d} x price =
        record {
          price = price ∙ sofar.price;
          rest = only_clients (view before) (view b) (view d) (put (view b).clients c (Some (with_estimate x.client None))) sofar.rest x.after;
          many = subst (λ (v : rules.Broker). DropsMany t (view before).clients (n + 1) v.clients) (sym x.after)
              (many_one t (view b).clients c x.client x.numbered x.there x.over (view before).clients n sofar.many);
        }

  -- where one estimate is dropped and the bid of its client renewed, the bids stay right
  pub dropped_bids : {t : ℕ} (b : Broker P g) {c : ℕ} {w : rules.Broker} → DropsFrom t (view b) c w → {q : Bids} → Renews (meaning b) w c b.bids q → AreBids (meaning b) w (bid_in q)
  dropped_bids b {c} {w} x r = renewed r (λ d ne. same_bid (meaning b) (view b) w d (rw x.after (put_off (view b).clients c _ d ne)) (bid_in b.bids d) (b.kept d))

  -- so they do where the tick alone is set
  pub ticked_bids : (b : Broker P g) (t : ℕ) {w : rules.Broker} → w ≡ at_tick (view b) t → AreBids (meaning b) w (bid_in b.bids)
  ticked_bids b t {w} set d = same_bid (meaning b) (view b) w d (rw set) (bid_in b.bids d) (b.kept d)

  -- all ended estimates dropped, and the tick set
  pub clock_stepped : {t : ℕ} {b : Broker P g} {n : ℕ} {e d : Broker P g} → Lawful (meaning d) → IsClear (meaning b) (view b) (SetClock t) → DropsAll t b n e → view d ≡ at_tick (view e) t → d.price ≡ e.price → Stepped b (SetClock t) (Ok (Count n)) d
  clock_stepped {t} {b} {n} {e} l clear (all, none) set price =
      stepped l
      (subst (λ (v : rules.Broker). Step (meaning b) (view b) (SetClock t) (Ok (Count n)) v) (sym (set ∙ ap (λ (v : rules.Broker). at_tick v t) all.rest))
      (clock_step (meaning b) (view b) t n (view e).clients clear all.many none))
      (price ∙ all.price)
