-- Every history leads to a broker that is in its ranges.
use Rattle.std.proofs.Common.{◌≡◌, ℕ, ◌^◌, ◌<◌, ◌≤◌, ◌⊎◌, List, Some, None, Option, refl, subst, inl, inr, arith, Result}
use Rattle.std.proofs.lemmas.Bool.Decides.{nat_tests}
use Rattle.std.proofs.lemmas.Option.{same_Some}
use Rattle.rules.specs.declared.refusal.Refusal.{Refusal}
use Rattle.rules.specs.declared.refusal.Refusal.TheVariants.{PoolOutOfRange, MaximumOutOfRange, AlreadyStarted, ActiveAboveFrames, EndNotAfterClock}
use Rattle.rules.specs.Offers.{Meaning}
use Rattle.laws.specs.ByNumber.{put}
use Rattle.laws.specs.Broker.{Estimate, Broker, Client, new_broker}
use Rattle.laws.specs.Calls
use Rattle.laws.specs.Calls.{Call, Start, Admit, SetEstimate, Answer, Step, lasting, lasts}
use Rattle.laws.specs.Histories.{Event, Run, start, then, Each}
use Rattle.laws.specs.Ranges.{TickFits}
use Rattle.laws.specs.Laws.{BrokersStayInRange}
use Rattle.laws.proofs.Puts.{put_each}
use Rattle.laws.proofs.Refused.{denied}
use Rattle.laws.proofs.Kept.{Fit, none_some, inside}
use Rattle.laws.proofs.Runs.{history_kept}

-- a client's maximum and its estimate, in a pool of F frames at tick t, where N says that ticks are 32-bit numbers
abbrev Good : Type 0 → ℕ → ℕ → Client → Type 0
Good N F t x = (1 ≤ x.maximum) × ((e : Estimate) → x.estimate ≡ Some e → (e.active ≤ F) × (t < e.end) × (N → e.end < 2 ^ 32))

abbrev AllGood : Type 0 → ℕ → ℕ → Option Client → Type 0
AllGood N F t o = (x : Client) → o ≡ Some x → Good N F t x

-- what `Kept` leaves open
record Within (N : Type 0) (u F t : ℕ) (cs : ℕ → Option Client) : Type 0 where
  started : ((u ≡ 0) × (F ≡ 0)) ⊎ ((1 ≤ u) × (1 ≤ F))
  unit : u ≤ 999
  tick : N → t < 2 ^ 32
  each : (c : ℕ) → AllGood N F t (cs c)

abbrev Ranged : Type 0 → Broker → Type 0
Ranged N b = Within N b.unit b.frames b.tick b.clients

module _ {N : Type 0} {F t : ℕ} where
  nobody : AllGood N F t None
  nobody y e = absurd (none_some refl e)

  somebody : (x : Client) → Good N F t x → AllGood N F t (Some x)
  somebody x g y e = subst (Good N F t) (same_Some x y e) g

  -- one client's record is put in place of another
  put_within : {u : ℕ} {cs : ℕ → Option Client} → Within N u F t cs → (c : ℕ) (o : Option Client) → AllGood N F t o → Within N u F t (put cs c o)
  put_within {cs = cs} w c o g =
      record { started = w.started; unit = w.unit; tick = w.tick; each = put_each cs c o (λ _. AllGood N F t) g (λ d ne. w.each d) }

some_maximum : (n : ℕ) → (n ≡ 0 → ⊥) → 1 ≤ n
some_maximum n h = omega (arith, h)

lasts_good : (t : ℕ) (v : Option Estimate) (e : Estimate) → lasts t v ≡ Some e → (v ≡ Some e) × (t < e.end)
lasts_good t v e h = grind (arith, nat_tests)

lasting_good : (N : Type 0) (F s t : ℕ) (o : Option Client) → AllGood N F s o → AllGood N F t (lasting t o)
lasting_good N F s t (Some x) g =
    somebody _ (let h = g x refl in (h.0, λ e q. let z = lasts_good t x.estimate e q in let i = h.1 e z.0 in (i.0, z.1, i.2)))
lasting_good N F s t None g = nobody

-- one more call, whose tick fits too
narrowed : (N M : Type 0) → (M → N) → (b : Broker) → Ranged N b → Ranged M b
narrowed N M f b w =
    record { started = w.started; unit = w.unit; tick = λ n. w.tick (f n); each = λ c x e. let g = w.each c x e in (g.0, λ v q. let z = g.1 v q in (z.0, z.1, λ n. z.2 (f n))) }

step_within : (N : Type 0) (m : Meaning) (b : Broker) (x : Call) (a : Result Answer Refusal) (d : Broker) → Ranged N b → (N → TickFits x) → Step m b x a d → Ranged N d
step_within N m b x a d w n (Calls.refused r) = w
step_within N m b x a d w n (Calls.accepted clear (Calls.started {u = u} {F = F})) =
    let no = denied m b (Start u F) PoolOutOfRange clear in
    let i = inside 1 999 u (λ h. no (inr h)) in
    let j = inside 1 4_096 F (λ h. no (inl h)) in
    let z = denied m b (Start u F) AlreadyStarted clear in
    record { started = inr (i.0, j.0); unit = i.1; tick = w.tick; each = λ c y e. let g = w.each c y e in (g.0, λ v q. let h = g.1 v q in (omega (arith, h.0, z), h.1, h.2)) }
step_within N m b x a d w n (Calls.accepted clear (Calls.admitted {a = y})) =
    let z = denied m b (Admit y) MaximumOutOfRange clear in
    put_within w y.client _ (somebody _ (some_maximum y.maximum (λ h. z (inl h)), λ e q. absurd (none_some refl q)))
step_within N m b x a d w n (Calls.accepted clear (Calls.granted_free {c = c} {x = y} e g)) = put_within w c _ (somebody _ (w.each c y e))
step_within N m b x a d w n (Calls.accepted clear (Calls.granted_from {c = c} {p = p} {x = y} {y = z} e g t i j)) =
    put_within (put_within w p _ (somebody _ (w.each p z i))) c _ (somebody _ (w.each c y e))
step_within N m b x a d w n (Calls.accepted clear Calls.delivered) = w
step_within N m b x a d w n (Calls.accepted clear (Calls.handed_back {c = c} {x = y} e g)) = put_within w c _ (somebody _ (w.each c y e))
step_within N m b x a d w n (Calls.accepted clear (Calls.left {c = c} e)) = put_within w c None nobody
step_within N m b x a d w n (Calls.accepted clear (Calls.estimated {c = c} {e = v} {x = y} e)) =
    let few = denied m b (SetEstimate c v) ActiveAboveFrames clear in
    let late = denied m b (SetEstimate c v) EndNotAfterClock clear in
    put_within w c _ (somebody _ ((w.each c y e).0, λ u q. subst (λ (e : Estimate). (e.active ≤ b.frames) × (b.tick < e.end) × (N → e.end < 2 ^ 32)) (same_Some v u q) (omega (arith, few), omega (arith, late), n)))
step_within N m b x a d w n (Calls.accepted clear (Calls.clocked {t = t})) =
    record { started = w.started; unit = w.unit; tick = n; each = λ c. lasting_good N b.frames b.tick t (b.clients c) (w.each c) }

run_within : (m : Meaning) (h : List Event) (b : Broker) → Run m new_broker h b → Ranged (Each (λ e. TickFits e.call) h) b
run_within m h b start = record { started = inl (refl, refl); unit = omega arith; tick = λ _. omega arith; each = λ c. nobody }
run_within m h b (then {x = x} {a = a} {d = d} {h = k} r s) = step_within _ m d x a b (narrowed _ _ (λ n. n.1) d (run_within m k d r)) (λ n. n.0) s

pub brokers_stay_in_range : BrokersStayInRange
brokers_stay_in_range =
    record {
      ranges = λ m l h b r.
          let k = history_kept m l h b r in
          let w = run_within m h b r in
          record {
            started = w.started;
            unit = w.unit;
            frames = k.small;
            minimums = k.room;
            clients = λ c x e.
                let f = subst (Fit b.frames c) e (k.each_fits c) in
                let s = f.sound _ refl in
                let g = w.each c x e in
                record { numbered = s.numbered; shares = (s.some_shares, s.few_shares); class = s.low_class; minimum = f.order; maximum = (g.0, f.within); holding = f.fits; estimate = λ v q. let z = g.1 v q in (z.0, z.1) };
          };
      ticks = λ m l h b r. (run_within m h b r).tick;
      ends = λ m l h b r n c x e p q. (((run_within m h b r).each c x p).1 e q).2 n;
    }
