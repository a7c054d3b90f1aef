-- Under the share price, from an ask that was turned away on, a client is not shorted.
use Rattle.std.proofs.Common.{◌≡◌, ℕ, ◌+◌, ◌*◌, ◌/◌, ◌<◌, ◌≤◌, min, true, ◌≢◌, ◌⊎◌, List, [], ◌∷◌, ◌++◌, length, Some, None, Option, sym, refl, ap, ◌∙◌, subst, inl, inr, lt_of_mul-lt-mul_right, div-mul-le_self, arith, Result}
use Rattle.std.proofs.lemmas.Bool.{cases_lt}
use Rattle.std.proofs.lemmas.Bool.Decides.{nat_tests}
use Rattle.rules.specs.declared.refusal.Refusal.{Refusal}
use Rattle.rules.specs.declared.refusal.Refusal.TheVariants.{AlreadyAdmitted}
use Rattle.rules.specs.Offers.{Meaning, Valid, Lawful}
use Rattle.rules.specs.Rank.{above, ranks}
use Rattle.laws.specs.ByNumber.{total, put}
use Rattle.laws.specs.Division.{Clients, terms, minimum_of, capped, offer_of, bid_of}
use Rattle.laws.specs.Broker.{Broker, Client, new_broker, present, holding, maximum_of, shares_of, all_shares, share_of, MinimumsWithin, MayTake}
use Rattle.laws.specs.Calls
use Rattle.laws.specs.Calls.{Call, Admit, HandBack, Leave, Answer, Step, Absent, newcomer, with_stack}
use Rattle.laws.specs.Histories.{Event, event, Run, start, then, reached, Each, Throughout, smallest, TurnsAway, Keeps}
use Rattle.laws.specs.Guarantees.{TellsShare}
use Rattle.laws.proofs.Puts.{put_off, put_each}
use Rattle.laws.proofs.Contest.{Can}
use Rattle.laws.proofs.Unique.{valid, admissible}
use Rattle.laws.proofs.Shares.{outbid_has_part, loser_had_more}
use Rattle.laws.proofs.Refused.{denied}
use Rattle.laws.proofs.Kept.{Kept, new_kept, high_of, held_of, none_some, some_there, same_terms}
use Rattle.laws.proofs.Quiet.{Quiet, quiet}
use Rattle.laws.proofs.Runs.{all_sound, ask_room, contest_of, cap_is, held_fits, yields, from_other, history_kept, run_kept, earlier_run, later_run, lands}
use Rattle.laws.proofs.Rests.{GetsNothing, turned, outbid_at}

-- of things by number with one replaced, each is the new one or as it was
put_there : {A : Type 0} (f : ℕ → A) (q : ℕ) (x : A) (c : ℕ) → ((c ≡ q) × (put f q x c ≡ x)) ⊎ ((c ≢ q) × (put f q x c ≡ f c))
put_there f q x = put_each f q x (λ c y. ((c ≡ q) × (y ≡ x)) ⊎ ((c ≢ q) × (y ≡ f c))) (inl (refl, refl)) (λ c ne. inr (ne, refl))

-- from d to e the client stays, under its maximum, and loses no frame, unless it still has its share after
record Stays (c : ℕ) (d e : Broker) : Type 0 where
  there : (x : Client) × (e.clients c ≡ Some x)
  maximum : maximum_of e c ≡ maximum_of d c
  enough : (holding d c ≤ holding e c) ⊎ (share_of e c ≤ holding e c)

module _ (m : Meaning) (l : Lawful m) (share_told : TellsShare m) where
  -- beyond the minimums, the larger fraction of shares over count ranks above
  fraction_ranks : (cs : Clients) (c j d k : ℕ) → Valid (offer_of (terms (cs c)) j) → Valid (offer_of (terms (cs d)) k) → minimum_of cs c < j → minimum_of cs d < k →
      (terms (cs d)).shares * j < (terms (cs c)).shares * k → above (bid_of m cs c j) (bid_of m cs d k) ≡ true
  unfolding above ranks
  fraction_ranks cs c j d k v w p q h =
      let e = share_told (offer_of (terms (cs c)) j) v in
      let f = share_told (offer_of (terms (cs d)) k) w in
      rw (e, f) (grind (arith, nat_tests))

  module _ (b : Broker) (k : Kept b) (w : MinimumsWithin b) where
    fraction : (c j d i : ℕ) → Can (capped b.frames (present b)) c j → Can (capped b.frames (present b)) d i → minimum_of (present b) c < j → minimum_of (present b) d < i →
        shares_of b d * j < shares_of b c * i → above (bid_of m (present b) c j) (bid_of m (present b) d i) ≡ true
    fraction c j d i p q =
        let can_make = valid m l b.frames k.small (present b) (all_sound m l b k) in
        fraction_ranks (present b) c j d i (can_make c j p) (can_make d i q)

    some_shares : (c : ℕ) → 1 ≤ capped b.frames (present b) c → 1 ≤ shares_of b c
    some_shares c h = (admissible m l b.frames k.small (present b) (all_sound m l b k) c h).some_shares

    full : b.free ≡ [] → total (holding b) ≡ b.frames
    full e = omega (arith, k.all, ap length e)

    -- less than n frames more than the share, rounded down, is less than n frames
    below : (c n : ℕ) → b.frames * shares_of b c < n * all_shares b → share_of b c < n
    below c n h = lt_of_mul-lt-mul_right (all_shares b) (omega (arith, h, div-mul-le_self (b.frames * shares_of b c) (all_shares b)))

    -- who can get nothing has its share, or its maximum
    has_enough : (c : ℕ) → GetsNothing m b c → min (maximum_of b c) (share_of b c) ≤ holding b c
    has_enough c (inl h) = omega arith
    has_enough c (inr o) =
        elim (cases_lt (holding b c) (maximum_of b c)) [
          | inl room ↦
              let out = outbid_at m l b k c o in
              let part = outbid_has_part (contest_of m l b k) (holding b) (held_fits m l b k) (shares_of b) b.frames (full o.0) fraction w some_shares
              c (omega (arith, cap_is m l b k c)) (refl, out.1) in
              omega (arith, below c (holding b c + 1) part)
          | inr h ↦ omega arith
        ]

    -- who loses a frame had more than its share
    lost_more : (c p : ℕ) → b.free ≡ [] → holding b c < maximum_of b c → MayTake m b c p → share_of b p < holding b p
    lost_more c p e room t =
        below p (holding b p) (loser_had_more (contest_of m l b k) (holding b) (held_fits m l b k) (shares_of b) b.frames (full e) fraction w some_shares
        c p (omega (arith, cap_is m l b k c)) (yields m l b k c p t))

  module _ (c : ℕ) (d : Broker) (x : Client) (there : d.clients c ≡ Some x) where
    as_it_was : {e : Broker} → e.clients c ≡ d.clients c → Stays c d e
    as_it_was q = record { there = (x, q ∙ there); maximum = ap high_of q; enough = inl (omega (arith, ap held_of q)) }

    -- the client is the one at q, and its record is another with the same maximum and no fewer frames
    not_less : {e : Broker} (q : ℕ) (z y : Client) → d.clients q ≡ Some z → c ≡ q → e.clients c ≡ Some y → y.maximum ≡ z.maximum → length z.stack ≤ length y.stack → Stays c d e
    not_less q z y i same at g h =
        let here : d.clients c ≡ Some z = cc in
        record { there = (y, at); maximum = omega (arith, ap high_of at, ap high_of here, g); enough = inl (omega (arith, ap held_of at, ap held_of here)) }

    -- one client is replaced: this one, or it is as it was
    replaced : {e : Broker} (q : ℕ) (o : Option Client) → e.clients c ≡ put d.clients q o c → (c ≡ q → e.clients c ≡ o → Stays c d e) → Stays c d e
    replaced q o h if-it =
        elim (put_there d.clients q o c) [ inl (same, at) ↦ if-it same (h ∙ at) | inr (ne, off) ↦ as_it_was (h ∙ off) ]

    -- it is as it was in its frames and limits
    quiet_stays : {e : Broker} → Quiet d e → Stays c d e
    quiet_stays q = record { there = (q.each c).there x there; maximum = (q.each c).high; enough = inl (omega (arith, ap length (q.each c).stack)) }

    module _ (k : Kept d) (w : MinimumsWithin d) where
      step_stays : (y : Call) (a : Result Answer Refusal) (e : Broker) → Keeps c (event y a e) → Step m d y a e → Stays c d e
      step_stays y a e n (Calls.accepted clear (Calls.admitted {a = q})) =
          replaced q.client (Some (newcomer q)) refl
          (λ same at. absurd (denied m d (Admit q) AlreadyAdmitted clear (λ none. none_some none (subst (λ (i : ℕ). d.clients i ≡ Some x) same there))))
      step_stays y a e n (Calls.accepted clear (Calls.granted_free {c = q} {f = f} {x = z} i j)) =
          let o = with_stack z (f ∷ z.stack) in
          replaced q (Some o) refl (λ same at. not_less q z o i same at refl (omega arith))
      step_stays y a e n (Calls.accepted clear (Calls.granted_from {c = q} {p = p} {f = f} {fs = fs} {x = z} {y = u} i j t v s)) =
          elim (put_there (put d.clients p (Some (with_stack u fs))) q (Some (with_stack z (f ∷ z.stack))) c) [
            | inl (same, at) ↦ not_less q z (with_stack z (f ∷ z.stack)) i same at refl (omega arith)
            | inr (ne, off) ↦ elim (put_there d.clients p (Some (with_stack u fs)) c) [
              | inl (same, at) ↦ loses same (off ∙ at)
              | inr (other, here) ↦ as_it_was (off ∙ here)
            ]
          ]
        where
          loses : c ≡ p → e.clients c ≡ Some (with_stack u fs) → Stays c d e
          loses same at =
              let u_is : u ≡ x = cc in
              let room = ask_room m d q clear in
              let one = put_off d.clients p (Some (with_stack u fs)) q (λ r. from_other m l d k q p room t (sym r)) in
              let terms_are : present e ≡ present d = same_terms (put d.clients p (Some (with_stack u fs))) q z (f ∷ z.stack) (one ∙ i) ∙ same_terms d.clients p u fs v in
              let share_is : share_of e c ≡ share_of d c = ap (λ (cs : Clients). d.frames * (terms (cs c)).shares / total (λ r. (terms (cs r)).shares)) terms_are in
              let more = subst (λ (r : ℕ). share_of d r < holding d r) (sym same) (lost_more d k w q p j room t) in
              record {
                there = (with_stack u fs, at);
                maximum = omega (arith, ap high_of at, ap high_of there, ap (λ (u : Client). u.maximum) u_is);
                enough = inr (omega (arith, share_is, more, ap held_of at, ap held_of there, ap (λ (u : Client). length u.stack) u_is, ap length s));
              }
      step_stays y a e n (Calls.accepted clear (Calls.handed_back {c = q} {fs = fs} {x = z} i j)) =
          replaced q (Some (with_stack z fs)) refl (λ same at. absurd ((n tt).0 (ap HandBack (sym same))))
      step_stays y a e n (Calls.accepted clear (Calls.left {c = q} {x = z} i)) = replaced q None refl (λ same at. absurd ((n tt).1 (ap Leave (sym same))))
      -- a refusal and a start leave all clients as they were
      step_stays y a e n (Calls.refused r) = as_it_was refl
      step_stays y a e n (Calls.accepted clear Calls.started) = as_it_was refl
      step_stays y a e n (Calls.accepted {a = v} clear s) = quiet_stays (quiet m d k y v e clear s tt)

  -- what holds throughout holds at the end
  at_end : (P : Broker → Type 0) (b : Broker) (h : List Event) (d : Broker) → Run m b h d → Throughout P b h → P d
  at_end P b h d start t = t
  at_end P b h d (then r s) t = t.0

  abbrev Enough : ℕ → Broker → List Event → Broker → Type 0
  Enough c b since now = min (maximum_of now c) (smallest (λ d. share_of d c) b since) ≤ holding now c

  module _ (c : ℕ) (b : Broker) (k : Kept b) where
    since_then : (since : List Event) (now : Broker) → Run m b since now → Each (Keeps c) since → Throughout MinimumsWithin b since →
        (x : Client) → b.clients c ≡ Some x → Enough c b [] b → ((y : Client) × (now.clients c ≡ Some y)) × Enough c b since now
    unfolding smallest
    since_then since now start n w x there h = ((x, there), h)
    since_then since now (then {x = y} {a = a} {d = d} {h = i} r s) (n, ns) (w, ws) x there h =
        let ((z, here), g) = since_then i d r ns ws x there h in
        let q = step_stays c d z here (run_kept m l b i d k r) (at_end MinimumsWithin b i d r ws) y a now n s in
        (q.there, omega (arith, g, q.maximum, q.enough))

  -- after an ask that turns the client away it is there, and has enough
  begins : (b : Broker) (c : ℕ) (earlier : List Event) (e : Event) (d : Broker) → Kept b → Run m b (e ∷ earlier) d → TurnsAway c e → MinimumsWithin d →
      ((x : Client) × (d.clients c ≡ Some x)) × Enough c d [] d
  unfolding smallest
  begins b c earlier e d k (then {x = x} {a = a} {d = f} r s) t w =
      let (q, there, g) = turned m f c x a d t s in
      let kd = run_kept m l b (event x a d ∷ earlier) d k (then r s) in
      (some_there (d.clients c) (subst (λ y. Absent y c → ⊥) (sym q) there), has_enough d kd w c (subst (λ y. GetsNothing m y c) (sym q) g))

-- and throughout, up to its start
at_start : (P : Broker → Type 0) (b : Broker) (h : List Event) → Throughout P b h → P b
at_start P b [] t = t
at_start P b (e ∷ h) t = at_start P b h t.1

pub no_client_is_shorted : (m : Meaning) → Lawful m → (h : List Event) (b : Broker) → Run m new_broker h b →
    TellsShare m → (c : ℕ) (later since earlier : List Event) (e : Event) → h ≡ later ++ (since ++ (e ∷ earlier)) →
    TurnsAway c e → Each (Keeps c) since → Throughout MinimumsWithin e.after since →
    min (maximum_of (reached e.after since) c) (smallest (λ d. share_of d c) e.after since) ≤ holding (reached e.after since) c
no_client_is_shorted m l h b r told c later since earlier e q turns keeps within =
    let before = e ∷ earlier in
    let now = reached new_broker (since ++ before) in
    let all = earlier_run m new_broker later (since ++ before) b (subst (λ i. Run m new_broker i b) q r) in
    let first = earlier_run m new_broker since before now all in
    let rest = later_run m new_broker since before now all in
    let ((x, there), enough) = begins m l told new_broker c earlier e e.after new_kept first turns (at_start MinimumsWithin e.after since within) in
    let (_, still) = since_then m l told c e.after (history_kept m l before e.after first) since now rest keeps within x there enough in
    subst (λ d. min (maximum_of d c) (smallest (λ d. share_of d c) e.after since) ≤ holding d c) (sym (lands m e.after since now rest)) still
