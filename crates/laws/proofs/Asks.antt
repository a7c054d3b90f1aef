-- While only asks and deliveries are accepted, there is a bound on how many asks can be.
use Rattle.std.proofs.Common.{◌≡◌, ℕ, ◌+◌, ◌<◌, ◌≤◌, true, false, ◌⊎◌, List, ◌∷◌, ◌++◌, length, Some, sym, refl, ap, ◌∙◌, subst, arith, Result}
use Rattle.rules.specs.declared.refusal.Refusal.{Refusal}
use Rattle.rules.specs.Offers.{Meaning, Lawful}
use Rattle.rules.specs.Rank.{above}
use Rattle.laws.specs.ByNumber.{total, put}
use Rattle.laws.specs.Division.{Clients, terms, minimum_of, bid_of}
use Rattle.laws.specs.Broker.{Broker, new_broker, present, holding, maximum_of, MayTake}
use Rattle.laws.specs.Calls
use Rattle.laws.specs.Calls.{Call, Ask, Answer, Step, IsClear, with_stack}
use Rattle.laws.specs.Histories.{Event, event, Run, start, then, reached, grants, IsAccepted, AskOrDelivery, AcceptsOnlyAsks}
use Rattle.laws.specs.Guarantees.{room}
use Rattle.laws.proofs.Sums.{upto_le, upto_minus}
use Rattle.laws.proofs.Puts.{put_at, put_off}
use Rattle.laws.proofs.Contest.{Contest}
use Rattle.laws.proofs.Payer.{Yields, other}
use Rattle.laws.proofs.Peaks.{Peaks, peaks_start, peaks_free, peaks_take, raise, raise_sum}
use Rattle.laws.proofs.Kept.{Kept, held_of, same_terms}
use Rattle.laws.proofs.Runs.{ask_room, contest_of, cap_is, held_fits, history_kept, earlier_run, later_run}

-- c may take a frame of p, by the terms and the holdings alone
abbrev Takes : Meaning → Clients → (ℕ → ℕ) → ℕ → ℕ → Type 0
Takes m cs h c p =
    (minimum_of cs p < h p)
    × ((d : ℕ) → minimum_of cs d < h d → above (bid_of m cs p (h p)) (bid_of m cs d (h d)) ≡ false)
    × ((h c < minimum_of cs c) ⊎ (above (bid_of m cs c (h c + 1)) (bid_of m cs p (h p)) ≡ true))

-- a stretch from b, in which nobody's terms change
module _ (m : Meaning) (l : Lawful m) (b : Broker) (kb : Kept b) where
  abbrev K : Contest
  K = contest_of m l b kb

  -- the stretch k has come to d
  record Climb (k : List Event) (d : Broker) : Type 0 where
    same : present d ≡ present b
    peak : ℕ → ℕ
    peaks : Peaks K (holding d) (length d.free) peak
    sum : total peak ≡ total (holding b) + grants k

  room_here : (d : Broker) (c : ℕ) → present d ≡ present b → IsClear m d (Ask c) → holding d c < K.cap c
  room_here d c e clear = omega (arith, ask_room m d c clear, ap (λ (cs : Clients). (terms (cs c)).maximum) e, cap_is m l b kb c)

  yields_here : (d : Broker) (c p : ℕ) → present d ≡ present b → MayTake m d c p → Yields K (holding d) c p
  yields_here d c p e t =
      let (beyond, lowest, wins) = subst (λ (cs : Clients). Takes m cs (holding d) c p) e (t.0.beyond, t.0.lowest, t.1) in
      (record { beyond = beyond; lowest = lowest }, wins)

  climb_step : (k : List Event) (d : Broker) (x : Call) (a : Result Answer Refusal) (e : Broker) → (IsAccepted a → AskOrDelivery x) → Climb k d → Step m d x a e → Climb (event x a e ∷ k) e
  unfolding grants
  climb_step k d x a e p w (Calls.refused r) = record { same = w.same; peak = w.peak; peaks = w.peaks; sum = omega (arith, w.sum) }
  climb_step k d x a e p w (Calls.accepted clear (Calls.granted_free {c = c} {f = f} {fs = fs} {x = y} g h)) =
      let o = Some (with_stack y (f ∷ y.stack)) in
      let cs = d.clients in
      record {
        same = same_terms cs c y (f ∷ y.stack) g ∙ w.same;
        peak = raise c w.peak;
        peaks = peaks_free K (holding d) (λ q. held_of (put cs c o q)) (length d.free) (length fs) w.peak c w.peaks
            (room_here d c w.same clear) (omega (arith, ap length h)) (omega (arith, ap held_of (put_at cs c o), ap held_of g)) (λ q ne. ap held_of (put_off cs c o q ne));
        sum = omega (arith, w.sum, raise_sum c w.peak (K.numbered c (omega (arith, room_here d c w.same clear))));
      }
  climb_step k d x a e q w (Calls.accepted clear (Calls.granted_from {c = c} {p = p} {f = f} {fs = fs} {x = y} {y = z} g h t i j)) =
      let o = Some (with_stack y (f ∷ y.stack)) in
      let v = Some (with_stack z fs) in
      let cs = d.clients in
      let one = put cs p v in
      let has_room = room_here d c w.same clear in
      let takes = yields_here d c p w.same t in
      let ne = other K (holding d) (λ c. omega (arith, w.peaks.held c, w.peaks.fits c)) c p has_room takes in
      record {
        same = same_terms one c y (f ∷ y.stack) (put_off cs p v c (λ q. ne (sym q)) ∙ g) ∙ same_terms cs p z fs i ∙ w.same;
        peak = raise c w.peak;
        peaks = peaks_take K (holding d) (λ q. held_of (put one c o q)) w.peak c p
            (subst (λ (n : ℕ). Peaks K (holding d) n w.peak) (ap length h) w.peaks)
            has_room takes (omega (arith, ap held_of (put_at one c o), ap held_of g))
            (omega (arith, ap held_of (put_off one c o p ne), ap held_of (put_at cs p v), ap held_of i, ap length j))
            (λ q nc np. ap held_of (put_off one c o q nc) ∙ ap held_of (put_off cs p v q np));
        sum = omega (arith, w.sum, raise_sum c w.peak (K.numbered c (omega (arith, has_room))));
      }
  climb_step k d x a e p w (Calls.accepted clear Calls.delivered) = record { same = w.same; peak = w.peak; peaks = w.peaks; sum = omega (arith, w.sum) }
  -- no other call is accepted
  climb_step k d x a e p w (Calls.accepted clear s) = absurd (p tt)

  climb : (k : List Event) (d : Broker) → Run m b k d → AcceptsOnlyAsks k → Climb k d
  unfolding grants
  climb k d start a = record { same = refl; peak = holding b; peaks = peaks_start K (holding b) (length b.free) (held_fits m l b kb); sum = omega arith }
  climb k d (then {x = x} {a = a} {d = e} {h = i} r s) (p, q) = climb_step i e x a d p (climb i e r q) s

  pub stretch_bounded : (k : List Event) (d : Broker) → Run m b k d → AcceptsOnlyAsks k → grants k ≤ room b
  stretch_bounded k d r a =
      let w = climb k d r a in
      omega (
        arith,
        w.sum,
        upto_le 256 w.peak (maximum_of b) (λ c i. omega (arith, w.peaks.fits c, cap_is m l b kb c)),
        upto_minus 256 (maximum_of b) (holding b) (λ c i. (kb.each_fits c).fits),
      )

pub asks_are_bounded : (m : Meaning) → Lawful m → (h : List Event) (b : Broker) → Run m new_broker h b →
    (later stretch earlier : List Event) → h ≡ later ++ (stretch ++ earlier) → AcceptsOnlyAsks stretch → grants stretch ≤ room (reached new_broker earlier)
asks_are_bounded m l h b r later stretch earlier e a =
    let from = reached new_broker earlier in
    let to = reached new_broker (stretch ++ earlier) in
    let q = earlier_run m new_broker later (stretch ++ earlier) b (subst (λ i. Run m new_broker i b) e r) in
    let k = history_kept m l earlier from (earlier_run m new_broker stretch earlier to q) in
    stretch_bounded m l from k stretch to (later_run m new_broker stretch earlier to q) a
