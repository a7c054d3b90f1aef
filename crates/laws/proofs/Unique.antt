-- There is one settled division.
use Rattle.std.proofs.Common.{◌≡◌, ℕ, ◌<◌, ◌≤◌, min, Some, None, Option, refl, arith}
use Rattle.rules.specs.Offers.{Meaning, Valid, Lawful}
use Rattle.rules.specs.Rank.{above}
use Rattle.rules.specs.Laws.{IsFraction}
use Rattle.rules.proofs.RankIsOneOrder.{fraction, asym, past, decided, own_fall}
use Rattle.laws.specs.Division.{Terms, Settled, Clients, Admissible, AllAdmissible, terms, minimum_of, capped, offer_of, bid_of}
use Rattle.laws.specs.Laws.{DivisionIsUnique}
use Rattle.laws.proofs.Sums.{below_too}
use Rattle.laws.proofs.Contest.{Contest, Can, no_two}

module _ (m : Meaning) (l : Lawful m) (F : ℕ) (small : F ≤ 4_096) (cs : Clients) (s : AllAdmissible cs) where
  -- who may have a frame is a client, with terms that a client may have
  pub admissible : (c : ℕ) → 1 ≤ capped F cs c → Admissible c (terms (cs c))
  admissible c h = go (cs c) refl h
    where
      go : (o : Option Terms) → cs c ≡ o → 1 ≤ min (terms o).maximum F → Admissible c (terms o)
      go (Some t) e i = s c t e
      go None e i = absurd (omega arith)

  -- its offer at a count that it may come to hold is one that a client can make
  pub valid : (c k : ℕ) → Can (capped F cs) c k → Valid (offer_of (terms (cs c)) k)
  valid c k j =
      let a = admissible c (omega arith) in
      record { some_shares = a.some_shares; few_shares = a.few_shares; low_class = a.low_class; small_active = a.small_active; some_frame = omega arith; few_frames = omega arith }

  pub fractions : (c k : ℕ) → Can (capped F cs) c k → IsFraction (bid_of m cs c k).quote
  fractions c k h = fraction m l (offer_of (terms (cs c)) k) (valid c k h)

  abbrev pub contest : Contest
  contest =
      record {
        low = minimum_of cs;
        cap = capped F cs;
        over = λ c j d k. above (bid_of m cs c j) (bid_of m cs d k);
        numbered = λ c h. (admissible c h).numbered;
        asym = λ c j d k p q. asym (bid_of m cs c j) (bid_of m cs d k);
        past = λ c i d j e k p q u. past (bid_of m cs c i) (bid_of m cs d j) (bid_of m cs e k) (fractions c i p) (fractions d j q) (fractions e k u);
        fall = λ c j k p q. own_fall m l c (minimum_of cs c) (offer_of (terms (cs c)) j) j k (valid c j p) (valid c k q);
        decided = λ c j d k n. decided (bid_of m cs c j) (bid_of m cs d k) (λ e. n e.0);
      }

  not_less : (n o : ℕ → ℕ) → Settled m F cs n → Settled m F cs o → (c : ℕ) → n c < o c → ⊥
  not_less n o p q c h =
      let d = below_too 256 o n (omega (arith, p.sum, q.sum)) c (contest.numbered c (omega (arith, q.to c))) h in
      no_two contest n o p.from q.from p.to q.to p.ranked q.ranked c d.0 h d.2

pub division_is_unique : DivisionIsUnique
division_is_unique m l F small cs s n o p q c =
    omega (arith, not_less m l F small cs s n o p q c, not_less m l F small cs s o n q p c)
