-- Runs: what holds at each of their brokers, and how they are cut and joined.
use Rattle.std.proofs.Common.{◌≡◌, ℕ, ◌<◌, ◌≤◌, ◌≢◌, List, [], ◌∷◌, ◌++◌, length, sym, refl, subst, arith, Ok, Err, Result}
use Rattle.rules.specs.declared.refusal.Refusal.{Refusal}
use Rattle.rules.specs.Offers.{Meaning, Lawful}
use Rattle.laws.specs.Division.{AllAdmissible, capped}
use Rattle.laws.specs.Broker.{Broker, new_broker, present, holding, maximum_of, MayTake}
use Rattle.laws.specs.Calls
use Rattle.laws.specs.Calls.{Call, Ask, Answer, Effect, Step, IsClear, RefusedBy}
use Rattle.laws.specs.Histories.{Event, Run, start, then, reached, IsRefused}
use Rattle.laws.proofs.Contest.{Contest}
use Rattle.laws.proofs.Unique.{contest}
use Rattle.laws.proofs.Payer.{Yields, other}
use Rattle.laws.proofs.Kept.{Kept, Pool, new_kept, started_kept, admitted_kept, free_kept, from_kept, back_kept, left_kept}
use Rattle.laws.proofs.Quiet.{quiet, quiet_kept}

pub ask_room : (m : Meaning) (b : Broker) (c : ℕ) → IsClear m b (Ask c) → holding b c < maximum_of b c
ask_room m b c clear = omega arith

-- the clients of a broker, as they may hold frames
module _ (m : Meaning) (l : Lawful m) (b : Broker) (k : Kept b) where
  pub all_sound : AllAdmissible (present b)
  all_sound c = (k.each_fits c).sound

  abbrev pub contest_of : Contest
  contest_of = contest m l b.frames k.small (present b) all_sound

  pub cap_is : (c : ℕ) → capped b.frames (present b) c ≡ maximum_of b c
  cap_is c = omega (arith, (k.each_fits c).within)

  pub held_fits : (c : ℕ) → holding b c ≤ capped b.frames (present b) c
  held_fits c = omega (arith, cap_is c, (k.each_fits c).fits)

  pub yields : (c p : ℕ) → MayTake m b c p → Yields contest_of (holding b) c p
  yields c p t = (record { beyond = t.0.beyond; lowest = t.0.lowest }, t.1)

  pub from_other : (c p : ℕ) → holding b c < maximum_of b c → MayTake m b c p → p ≢ c
  from_other c p room t = other contest_of (holding b) held_fits c p (omega (arith, cap_is c)) (yields c p t)

step_kept : (m : Meaning) → Lawful m → (b : Broker) (x : Call) (a : Result Answer Refusal) (d : Broker) → Kept b → Step m b x a d → Kept d
step_kept m l b x a d k (Calls.refused r) = k
step_kept m l b x a d k (Calls.accepted clear (Calls.started {u = u} {F = F})) = started_kept m b u F k clear
step_kept m l b x a d k (Calls.accepted clear (Calls.admitted {a = y})) = admitted_kept m b y k clear
step_kept m l b x a d k (Calls.accepted clear (Calls.granted_free {c = c} {f = f} {fs = fs} {x = y} e g)) =
    free_kept b.frames b.clients c y e b.free fs f k g (ask_room m b c clear)
step_kept m l b x a d k (Calls.accepted clear (Calls.granted_from {c = c} {p = p} {f = f} {fs = fs} {x = y} {y = z} e g t i h)) =
    from_kept b.frames b.clients c p f fs y z (subst (λ q. Pool b.frames (length q) b.clients) g k) (from_other m l b k c p (ask_room m b c clear) t) e i h (ask_room m b c clear)
step_kept m l b x a d k (Calls.accepted clear (Calls.handed_back {c = c} {f = f} {fs = fs} {x = y} e g)) = back_kept b.frames b.clients c y e b.free fs f k g
step_kept m l b x a d k (Calls.accepted clear (Calls.left {c = c} {x = y} e)) = left_kept b.frames b.clients c y e b.free k
step_kept m l b x a d k (Calls.accepted {a = y} clear e) = quiet_kept b d (quiet m b k x y d clear e tt) k

pub run_kept : (m : Meaning) → Lawful m → (b : Broker) (h : List Event) (d : Broker) → Kept b → Run m b h d → Kept d
run_kept m l b h d k start = k
run_kept m l b h d k (then {x = x} {a = a} {d = e} {h = i} r s) = step_kept m l e x a d (run_kept m l b i e k r) s

pub history_kept : (m : Meaning) → Lawful m → (h : List Event) (b : Broker) → Run m new_broker h b → Kept b
history_kept m l h b r = run_kept m l new_broker h b new_kept r

-- a refused call meets an entry of its list and leaves the broker as it was
pub refused_step : (m : Meaning) (b : Broker) (x : Call) (a : Result Answer Refusal) (d : Broker) → IsRefused a → Step m b x a d →
    (r : Refusal) × RefusedBy m b x r × (a ≡ Err r) × (d ≡ b)
refused_step m b x a d n (Calls.refused {r = r} q) = (r, q, refl, refl)
refused_step m b x a d n (Calls.accepted clear e) = absurd (n tt)

pub refused_by : (m : Meaning) (b : Broker) (x : Call) (r : Refusal) (d : Broker) → Step m b x (Err r) d → RefusedBy m b x r
refused_by m b x r d (Calls.refused q) = q

pub accepted_clear : (m : Meaning) (b : Broker) (x : Call) (a : Answer) (d : Broker) → Step m b x (Ok a) d → IsClear m b x
accepted_clear m b x a d (Calls.accepted clear e) = clear

module _ (m : Meaning) (b : Broker) where
  pub lands : (h : List Event) (d : Broker) → Run m b h d → reached b h ≡ d
  lands h d start = refl
  lands h d (then r s) = refl

  -- the earlier part of a run
  pub earlier_run : (later h : List Event) (d : Broker) → Run m b (later ++ h) d → Run m b h (reached b h)
  earlier_run [] h d r = subst (Run m b h) (sym (lands h d r)) r
  earlier_run (e ∷ later) h d (then {d = c} r s) = earlier_run later h c r

  -- and the later part
  pub later_run : (later h : List Event) (d : Broker) → Run m b (later ++ h) d → Run m (reached b h) later d
  later_run [] h d r = subst (λ c. Run m (reached b h) [] c) (lands h d r) start
  later_run (e ∷ later) h d (then {d = c} r s) = then (later_run later h c r) s

  pub joined_run : (h : List Event) (d : Broker) → Run m b h d → (later : List Event) (e : Broker) → Run m d later e → Run m b (later ++ h) e
  joined_run h d r later e start = r
  joined_run h d r later e (then {d = c} {h = i} q s) = then (joined_run h d r i c q) s
