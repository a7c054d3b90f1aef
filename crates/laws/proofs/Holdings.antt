-- A client's holding is what it has got since its admission, less what it has lost.
use Rattle.std.proofs.Common.{◌≡◌, ℕ, ◌+◌, ◌≤◌, cond, Bool, true, false, List, [], ◌∷◌, length, Some, None, Option, eqb, sym, refl, ap, ◌∙◌, arith, Result}
use Rattle.std.specs.Prelude.{count_by}
use Rattle.std.proofs.lemmas.Bool.{eq-eqb, ne_eqb}
use Rattle.std.proofs.lemmas.Bool.Decides.{nat_tests}
use Rattle.std.proofs.lemmas.List.Sums.{sum_by-cons}
use Rattle.rules.specs.declared.refusal.Refusal.{Refusal}
use Rattle.rules.specs.Offers.{Meaning, Lawful}
use Rattle.laws.specs.ByNumber.{put}
use Rattle.laws.specs.Broker.{Broker, Client, holding}
use Rattle.laws.specs.Calls
use Rattle.laws.specs.Calls.{Call, Answer, Step, newcomer, with_stack, with_estimate}
use Rattle.laws.specs.Histories.{event, start, then}
use Rattle.laws.specs.Tallies.{comes_or_goes, since, slip_to, slip_from, hands_back, gained, lost, returned}
use Rattle.laws.specs.Laws.{HoldingsAddUp}
use Rattle.laws.proofs.Puts.{put_at, put_off, each_but}
use Rattle.laws.proofs.Kept.{Kept, held_of}
use Rattle.laws.proofs.Quiet.{quiet}
use Rattle.laws.proofs.Runs.{ask_room, from_other, history_kept}

count_cut : {X : Type 0} (p : X → Bool) (q : Bool) (x : X) (xs : List X) → count_by p (cond q [] (x ∷ xs)) ≡ cond q 0 (cond (p x) 1 0 + count_by p xs)
count_cut p true x xs = refl
count_cut p false x xs = sum_by-cons (λ x. cond (p x) 1 0) x xs

one_client : (cs : ℕ → Option Client) (q : ℕ) (o : Option Client) (c : ℕ) →
    held_of (put cs q o c) + cond (eqb q c) (held_of (cs q)) 0 ≡ held_of (cs c) + cond (eqb q c) (held_of o) 0
one_client cs q o c =
    each_but q (λ c. held_of (put cs q o c) + cond (eqb q c) (held_of (cs q)) 0 ≡ held_of (cs c) + cond (eqb q c) (held_of o) 0)
    (rw (put_at cs q o, eq-eqb q q refl) (omega arith)) (λ d ne. rw (put_off cs q o d ne, ne_eqb q d (λ e. ne (sym e))) refl) c

module _ (m : Meaning) (l : Lawful m) (b : Broker) (k : Kept b) (c : ℕ) (some : 1 ≤ c) (n g : ℕ) (w : holding b c + n ≡ g) where
  -- one more event
  abbrev More : Call → Result Answer Refusal → Broker → Type 0
  More x a d = holding d c + cond (comes_or_goes c a x) 0 (cond (slip_from c a) 1 0 + cond (hands_back c a x) 1 0 + n) ≡ cond (comes_or_goes c a x) 0 (cond (slip_to c a) 1 0 + g)

  step_adds : (x : Call) (a : Result Answer Refusal) (d : Broker) → Step m b x a d → More x a d
  step_adds x a d (Calls.refused r) = omega (arith, w)
  step_adds x a d (Calls.accepted clear Calls.started) = omega (arith, w)
  step_adds x a d (Calls.accepted clear (Calls.admitted {a = y})) = let p = one_client b.clients y.client (Some (newcomer y)) c in grind (arith, nat_tests)
  step_adds x a d (Calls.accepted clear (Calls.granted_free {c = q} {f = f} {x = y} e t)) =
      let p = one_client b.clients q (Some (with_stack y (f ∷ y.stack))) c in let u = ap held_of e in grind (arith, nat_tests)
  step_adds x a d (Calls.accepted clear (Calls.granted_from {c = q} {p = p} {f = f} {fs = fs} {x = y} {y = z} e t u i j)) =
      let v = Some (with_stack z fs) in
      let one = one_client b.clients p v c in
      let two = one_client (put b.clients p v) q (Some (with_stack y (f ∷ y.stack))) c in
      let off = ap held_of (put_off b.clients p v q (λ n. from_other m l b k q p (ask_room m b q clear) u (sym n)) ∙ e) in
      let h = ap held_of i in
      let n = ap length j in
      grind (arith, nat_tests)
  step_adds x a d (Calls.accepted clear (Calls.handed_back {c = q} {fs = fs} {x = y} e t)) =
      let p = one_client b.clients q (Some (with_stack y fs)) c in let u = ap held_of e in let n = ap length t in grind (arith, nat_tests)
  step_adds x a d (Calls.accepted clear (Calls.left {c = q} e)) = let p = one_client b.clients q None c in grind (arith, nat_tests)
  step_adds x a d (Calls.accepted clear Calls.delivered) = omega (arith, w)
  step_adds x a d (Calls.accepted {a = y} clear (Calls.estimated {c = q} {e = v} e)) =
      let s = ap length ((quiet m b k x y d clear (Calls.estimated e) tt).each c).stack in omega (arith, w, s)
  step_adds x a d (Calls.accepted {a = y} clear Calls.clocked) =
      let s = ap length ((quiet m b k x y d clear Calls.clocked tt).each c).stack in omega (arith, w, s)

pub holdings_add_up : HoldingsAddUp
unfolding since
holdings_add_up m l h b start c some = refl
holdings_add_up m l h b (then {x = x} {a = a} {d = d} {h = k} r s) c some =
    let e = event x a b in
    let q = comes_or_goes c a x in
    let i = since c k in
    let before = holdings_add_up m l k d r c some in
    let more = step_adds m l d (history_kept m l k d r) c some (lost c i + returned c i) (gained c i) (omega (arith, before)) x a b s in
    let to = count_cut (λ e. slip_to c e.answer) q e i in
    let from = count_cut (λ e. slip_from c e.answer) q e i in
    let back = count_cut (λ e. hands_back c e.answer e.call) q e i in
    grind (arith, nat_tests)
