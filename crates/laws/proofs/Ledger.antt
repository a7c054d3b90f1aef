-- Every frame lies in exactly one stack, once.
use Rattle.std.proofs.Common.{◌≡◌, ℕ, zero, suc, ◌+◌, ◌≤◌, cond, eqb, leb, List, [], ◌∷◌, ◌++◌, reverse, Some, None, Option, sym, refl, ap, ◌∙◌, subst, arith, Result}
use mathlib.Core.List.{reverse_aux, reverse_aux-eq}
use Rattle.std.specs.Prelude.{count_by}
use Rattle.std.specs.List.{range_with_len}
use Rattle.std.proofs.lemmas.Bool.Decides.{nat_tests}
use Rattle.std.proofs.lemmas.List.Sums.{sum_by-cons, count_by-le-length}
use Rattle.rules.specs.declared.refusal.Refusal.{Refusal}
use Rattle.rules.specs.declared.refusal.Refusal.TheVariants.{ClientOutOfRange, AlreadyStarted, AlreadyAdmitted}
use Rattle.rules.specs.Offers.{Meaning, Lawful}
use Rattle.laws.specs.ByNumber.{total, Numbered, put}
use Rattle.laws.specs.Broker.{Broker, Client, new_broker, holding, stack_of}
use Rattle.laws.specs.Calls
use Rattle.laws.specs.Calls.{Call, Start, Admit, Answer, Effect, Step, IsClear, newcomer, with_stack}
use Rattle.laws.specs.Histories.{Event, Run, start, then}
use Rattle.laws.specs.Laws.{FramesLieOnce}
use Rattle.laws.proofs.Sums.{upto_same, upto_le, upto_zero}
use Rattle.laws.proofs.Puts.{put_off, put_sum}
use Rattle.laws.proofs.Refused.{denied}
use Rattle.laws.proofs.Kept.{Kept, inside, none_there, numbered}
use Rattle.laws.proofs.Quiet.{Quiet, quiet}
use Rattle.laws.proofs.Runs.{ask_room, from_other, history_kept}

abbrev times : ℕ → List ℕ → ℕ
times f xs = count_by (λ g. eqb f g) xs

times_cons : (f g : ℕ) (xs : List ℕ) → times f (g ∷ xs) ≡ cond (eqb f g) 1 0 + times f xs
times_cons f g xs = sum_by-cons (λ x. cond (eqb f x) 1 0) g xs

times_back : (f : ℕ) (xs ys : List ℕ) → times f (reverse_aux xs ys) ≡ times f xs + times f ys
times_back f [] ys = omega arith
times_back f (x ∷ xs) ys = omega (arith, times_back f xs (x ∷ ys), times_cons f x xs, times_cons f x ys)

times_row : (f i n : ℕ) → times f (range_with_len i n) ≡ cond (leb i f) (cond (leb f (i + n)) (cond (eqb f (i + n)) 0 1) 0) 0
times_row f i zero = grind (arith, nat_tests)
times_row f i (suc n) = times_cons f i (range_with_len (i + 1) n) ∙ let h = times_row f (i + 1) n in grind (arith, nat_tests)

abbrev here : ℕ → Option Client → ℕ
here f o = times f (stack_of o)

-- how often f lies in a stack of the broker
abbrev lies : ℕ → List ℕ → (ℕ → Option Client) → ℕ
lies f free cs = total (λ c. here f (cs c)) + times f free

-- how often it has to
abbrev once : ℕ → ℕ → ℕ
once F f = cond (leb 1 f) (cond (leb f F) 1 0) 0

-- one client put in place of another
lies_put : (f : ℕ) (free left : List ℕ) (cs : ℕ → Option Client) (c : ℕ) (o : Option Client) → Numbered c →
    here f o + times f left ≡ here f (cs c) + times f free → lies f left (put cs c o) ≡ lies f free cs
lies_put f free left cs c o i e = omega (arith, put_sum cs c o (λ o. here f o) i)

module _ (f : ℕ) (cs : ℕ → Option Client) (free : List ℕ) (c : ℕ) (x : Client) (e : cs c ≡ Some x) (i : Numbered c) where
  grant_lies : (g : ℕ) (gs : List ℕ) → free ≡ g ∷ gs → lies f gs (put cs c (Some (with_stack x (g ∷ x.stack)))) ≡ lies f free cs
  grant_lies g gs q = lies_put f free gs cs c (Some (with_stack x (g ∷ x.stack))) i (omega (arith, ap (here f) e, ap (times f) q, times_cons f g gs, times_cons f g x.stack))

  back_lies : (g : ℕ) (gs : List ℕ) → x.stack ≡ g ∷ gs → lies f (g ∷ free) (put cs c (Some (with_stack x gs))) ≡ lies f free cs
  back_lies g gs q = lies_put f free (g ∷ free) cs c (Some (with_stack x gs)) i (omega (arith, ap (here f) e, ap (times f) q, times_cons f g gs, times_cons f g free))

  leave_lies : lies f (reverse x.stack ++ free) (put cs c None) ≡ lies f free cs
  leave_lies = lies_put f free (reverse x.stack ++ free) cs c None i (omega (arith, ap (here f) e, ap (times f) (reverse_aux-eq x.stack free), times_back f x.stack free))

module _ (m : Meaning) (l : Lawful m) (f : ℕ) (b : Broker) (k : Kept b) (o : lies f b.free b.clients ≡ once b.frames f) where
  there : (c : ℕ) (x : Client) → b.clients c ≡ Some x → Numbered c
  there c x e = numbered b.frames c (b.clients c) x (k.each_fits c) e

  -- what holds of the frames holds after a call that moves none
  quiet_once : (d : Broker) → Quiet b d → lies f d.free d.clients ≡ once d.frames f
  quiet_once d q =
      let moved : once d.frames f ≡ once b.frames f = ap (λ F. once F f) q.frames in
      omega (arith, o, moved, ap (times f) q.free, upto_same 256 (λ c. here f (d.clients c)) (λ c. here f (b.clients c)) (λ c i. ap (times f) (q.each c).stack))

  step_once : (x : Call) (a : Result Answer Refusal) (d : Broker) → Step m b x a d → lies f d.free d.clients ≡ once d.frames f
  step_once x a d (Calls.refused r) = o
  step_once x a d (Calls.accepted clear (Calls.started {u = u} {F = F})) =
      let z : 1 ≤ b.frames → ⊥ = denied m b (Start u F) AlreadyStarted clear in
      let s = upto_le 256 (λ c. here f (b.clients c)) (holding b) (λ c i. count_by-le-length (λ g. eqb f g) (stack_of (b.clients c))) in
      let n : total (λ c. here f (b.clients c)) ≡ 0 = omega (arith, k.all) in
      let t = times_row f 1 F in
      grind (arith, nat_tests)
  step_once x a d (Calls.accepted clear (Calls.admitted {a = q})) =
      lies_put f b.free b.free b.clients q.client (Some (newcomer q)) (inside 1 256 q.client (denied m b (Admit q) ClientOutOfRange clear))
      (omega (arith, ap (here f) (none_there (b.clients q.client) (denied m b (Admit q) AlreadyAdmitted clear)))) ∙ o
  step_once x a d (Calls.accepted clear (Calls.granted_free {c = c} {f = g} {fs = gs} {x = y} e q)) = grant_lies f b.clients b.free c y e (there c y e) g gs q ∙ o
  step_once x a d (Calls.accepted clear (Calls.granted_from {c = c} {p = p} {f = g} {fs = gs} {x = y} {y = z} e h t i j)) =
      let ne = from_other m l b k c p (ask_room m b c clear) t in
      let one = put b.clients p (Some (with_stack z gs)) in
      let off = put_off b.clients p (Some (with_stack z gs)) c (λ q. ne (sym q)) in
      grant_lies f one (g ∷ []) c y (off ∙ e) (there c y e) g [] refl
      ∙ back_lies f b.clients [] p z i (there p z i) g gs j
      ∙ subst (λ (fs : List ℕ). lies f fs b.clients ≡ once b.frames f) h o
  step_once x a d (Calls.accepted clear (Calls.handed_back {c = c} {f = g} {fs = gs} {x = y} e q)) = back_lies f b.clients b.free c y e (there c y e) g gs q ∙ o
  step_once x a d (Calls.accepted clear (Calls.left {c = c} {x = y} e)) = leave_lies f b.clients b.free c y e (there c y e) ∙ o
  step_once x a d (Calls.accepted {a = y} clear e) = quiet_once d (quiet m b k x y d clear e tt)

run_once : (m : Meaning) → Lawful m → (f : ℕ) (h : List Event) (b : Broker) → Run m new_broker h b → lies f b.free b.clients ≡ once b.frames f
run_once m l f h b start = let z = upto_zero 256 in grind (arith, nat_tests)
run_once m l f h b (then {x = x} {a = a} {d = d} {h = k} r s) = step_once m l f d (history_kept m l k d r) (run_once m l f k d r) x a b s

pub frames_lie_once : FramesLieOnce
frames_lie_once m l h b r f = let o = run_once m l f h b r in (λ i. grind (arith, nat_tests), λ i. grind (arith, nat_tests))
