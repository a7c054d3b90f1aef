-- The worked examples, by computing.
use Rattle.std.proofs.Common.{◌≡◌, ℕ, zero, suc, ◌+◌, ◌*◌, ◌<◌, ◌≤◌, min, Bool, true, false, cond, ◌&&◌, eqb, ltb, leb, None, refl, ap, inl, inr, arith}
use Rattle.std.proofs.lemmas.Bool.Decides.{nat_tests, Decides-below_and}
use Rattle.rules.specs.Offers.{Meaning, Valid}
use Rattle.rules.specs.Prices.{share}
use Rattle.rules.specs.Rank.{above, ranks}
use Rattle.laws.specs.ByNumber.{upto, total}
use Rattle.laws.specs.Division.{Clients, Settled, minimum_of, capped, bid_of}
use Rattle.laws.specs.Broker.{Broker, present, shares_of, all_shares, MinimumsWithin}
use Rattle.laws.specs.Cases.{three, trio, sharing, hundred, WorkedExamples}

-- a test of the numbers below n
every : ℕ → (ℕ → Bool) → Bool
every zero p = true
every (suc n) p = p n && every n p

every_tells : (n : ℕ) (p : ℕ → Bool) → every n p ≡ true → (k : ℕ) → k < n → p k ≡ true
unfolding every
every_tells n p h = (Decides-below_and p (λ k. p k ≡ true) (λ n. every n p) (λ k. (λ e. e, λ e. e)) refl (λ _. refl) n).0 h

-- a client has a count between its minimum and its maximum
between : (F : ℕ) (cs : Clients) (n : ℕ → ℕ) → ℕ → Bool
between F cs n c = cond (leb (minimum_of cs c) (n c)) (leb (n c) (capped F cs c)) false

-- no frame would go from one client to another
stands : (m : Meaning) (F : ℕ) (cs : Clients) (n : ℕ → ℕ) → ℕ → ℕ → Bool
stands m F cs n c d = cond (eqb c d) true (cond (ltb (minimum_of cs c) (n c)) (cond (ltb (n d) (capped F cs d)) (above (bid_of m cs c (n c)) (bid_of m cs d (n d + 1))) true) true)

-- with no client from 4 on, computing settles it
settled_by : (m : Meaning) (F : ℕ) (cs : Clients) (n : ℕ → ℕ) → ((c : ℕ) → 4 ≤ c → (cs c ≡ None) × (n c ≡ 0)) →
    every 4 (between F cs n) ≡ true → every 4 (λ c. every 4 (stands m F cs n c)) ≡ true → total n ≡ min F (total (capped F cs)) → Settled m F cs n
unfolding between stands
settled_by m F cs n none ones pairs sums =
    record {
      from = λ c. grind (arith, nat_tests, every_tells 4 (between F cs n) ones c, none c);
      to = λ c. grind (arith, nat_tests, every_tells 4 (between F cs n) ones c, none c);
      sum = sums;
      ranked = λ c d ne p q.
          let stand : c < 4 → d < 4 → stands m F cs n c d ≡ true = λ h. every_tells 4 (stands m F cs n c) (every_tells 4 (λ c. every 4 (stands m F cs n c)) pairs c h) d in
          grind (arith, nat_tests, stand, none c, none d);
    }

none_past : (l h x y z c : ℕ) → 4 ≤ c → (trio l h c ≡ None) × (three x y z 0 c ≡ 0)
none_past l h x y z c g = (grind (arith, nat_tests), grind (arith, nat_tests))

-- a minimum is within its client's share
fits : Broker → ℕ → Bool
fits b c = leb (minimum_of (present b) c * all_shares b) (b.frames * shares_of b c)

-- with no client from 4 on, computing tells it of all
within_by : (b : Broker) → ((c : ℕ) → 4 ≤ c → b.clients c ≡ None) → every 4 (fits b) ≡ true → MinimumsWithin b
unfolding fits
within_by b none ones c =
    grind (arith, nat_tests, every_tells 4 (fits b) ones c, none c)

at_four : Valid (hundred 0 None 4)
at_four =
    record { some_shares = omega arith; few_shares = omega arith; low_class = omega arith; small_active = λ a e. cc; some_frame = omega arith; few_frames = omega arith }

pub worked_examples : WorkedExamples
unfolding every between stands fits above ranks upto
worked_examples =
    record {
      share_price = refl;
      taxed_price = refl;
      no_estimate = refl;
      class_price = refl;
      seven_frames = settled_by share 7 (trio 0 7) (three 5 2 0 0) (none_past 0 7 5 2 0) refl refl refl;
      a_minimum = settled_by share 7 (trio 1 7) (three 4 2 1 0) (none_past 1 7 4 2 1) refl refl refl;
      maximums = settled_by share 7 (trio 0 2) (three 2 2 2 0) (none_past 0 2 2 2 2) refl refl refl;
      one_free = refl;
      proportional = (refl, refl, refl);
      within = within_by (sharing 9 5) (λ c g. grind (arith, nat_tests)) refl;
      not_within = λ all. let beyond = all 1 in omega (arith, beyond);
      tells_share = λ o v. refl;
      taxed_differs = λ same. let e : ◌≡◌ {A = ℕ} 100 4 = ap (λ q. q.bottom) (same (hundred 0 None 4) at_four) in omega arith;
      keeps = λ x r b a. absurd a;
      keeps_too = λ x a b p q _. (p, q);
      hands_back = λ b k. (k tt).0 refl;
      leaves = λ b k. (k tt).1 refl;
      stretch = λ c s. (tt, tt);
      no_start = λ u F a. a;
      no_admission = λ y a. a;
      no_hand_back = λ c a. a;
      no_leave = λ c a. a;
      no_estimates = λ c e a. a;
      no_clock = λ t a. a;
      asks = λ s b. (λ _. tt, (λ _. tt, tt));
      in_stretch = λ b. (λ a. absurd a, (λ a. absurd a, tt));
      no_stretch = λ b a. a.0 tt;
      at_maximum = λ b. inl (refl, inl refl);
      outbid = λ b. inr (λ a. a, inl (refl, inr refl));
      another_refusal = λ b t. grind arith;
      another_client = λ b t. grind arith;
      no_longer = λ b t. grind arith;
      at_rest = λ c x e. cc;
      not_at_rest = λ r. r 1 _ refl;
      asked = λ b. inr (inl refl);
      not_asked = λ b t. grind arith;
      throughout = (omega arith, omega arith);
      not_at_end = λ t. omega (arith, t.0);
      not_at_start = λ t. omega (arith, t.1);
      tick_fits = (omega arith, omega arith);
      too_late = (λ t. omega (arith, t), λ t. omega (arith, t));
      no_tick = λ u F c a s. (tt, tt, tt, tt, tt, tt);
    }
