-- Calls that move no frame and change no minimum and no maximum: what holds of frames and limits holds after them.
use Rattle.std.proofs.Common.{◌≡◌, ℕ, ◌^◌, ◌<◌, Some, None, Option, length, refl, ap, subst, arith}
use Rattle.std.proofs.lemmas.Option.{same_Some}
use Rattle.std.proofs.lemmas.Bool.Decides.{nat_tests}
use Rattle.rules.specs.declared.refusal.Refusal.TheVariants.{ActiveAboveFrames}
use Rattle.rules.specs.Offers.{Meaning}
use Rattle.laws.specs.Division.{Terms, Admissible, terms}
use Rattle.laws.specs.Broker.{Estimate, Broker, Client, active_of, terms_of, stack_of}
use Rattle.laws.specs.Calls
use Rattle.laws.specs.Calls.{Call, Deliver, SetEstimate, SetClock, Answer, Effect, IsClear, lasting, lasts, with_estimate}
use Rattle.laws.proofs.Sums.{upto_same}
use Rattle.laws.proofs.Puts.{put_each}
use Rattle.laws.proofs.Refused.{denied}
use Rattle.laws.proofs.Kept.{Kept, Fit, held_of, high_of, low_of}

-- a client, or none, as it was in its frames and limits; if it could have its terms before, it can have those it has now
pub record Alike (c : ℕ) (o p : Option Client) : Type 0 where
  pub there : (x : Client) → o ≡ Some x → (y : Client) × (p ≡ Some y)
  pub stack : stack_of p ≡ stack_of o
  pub low : low_of p ≡ low_of o
  pub high : high_of p ≡ high_of o
  pub sound : ((t : Terms) → terms_of o ≡ Some t → Admissible c t) → (t : Terms) → terms_of p ≡ Some t → Admissible c t

-- so are all clients, and the frames
pub record Quiet (b d : Broker) : Type 0 where
  pub frames : d.frames ≡ b.frames
  pub free : d.free ≡ b.free
  pub each : (c : ℕ) → Alike c (b.clients c) (d.clients c)

unchanged : (c : ℕ) (o : Option Client) → Alike c o o
unchanged c o = record { there = λ x e. (x, e); stack = refl; low = refl; high = refl; sound = λ s. s }

abbrev Small : Option Estimate → Type 0
Small v = (a : ℕ) → active_of v ≡ Some a → a < 2 ^ 32

-- another estimate
reestimated : (c : ℕ) (x : Client) (v : Option Estimate) → (Small x.estimate → Small v) → Alike c (Some x) (Some (with_estimate x v))
reestimated c x v small =
    record {
      there = λ y e. (with_estimate x v, refl);
      stack = refl;
      low = refl;
      high = refl;
      sound = λ s t e.
          let a = s _ refl in
          let good : Admissible c (terms (terms_of (Some (with_estimate x v)))) = record { numbered = a.numbered; some_shares = a.some_shares; few_shares = a.few_shares; low_class = a.low_class; small_active = small a.small_active } in
          subst (Admissible c) (same_Some _ t e) good;
    }

-- an estimate that lasts is the one that was
lasts_active : (t : ℕ) (v : Option Estimate) (a : ℕ) → active_of (lasts t v) ≡ Some a → active_of v ≡ Some a
lasts_active t v a h = grind (arith, nat_tests)

clocked : (t c : ℕ) (o : Option Client) → Alike c o (lasting t o)
clocked t c (Some x) = reestimated c x (lasts t x.estimate) (λ s a e. s a (lasts_active t x.estimate a e))
clocked t c None = unchanged c None

-- the calls that are quiet
abbrev pub IsQuiet : Call → Type 0
IsQuiet (Deliver s) = Unit {0}
IsQuiet (SetEstimate c e) = Unit {0}
IsQuiet (SetClock t) = Unit {0}
IsQuiet x = ⊥

pub quiet : (m : Meaning) (b : Broker) → Kept b → (x : Call) (a : Answer) (d : Broker) → IsClear m b x → Effect m b x a d → IsQuiet x → Quiet b d
quiet m b k x a d clear Calls.delivered q = record { frames = refl; free = refl; each = λ c. unchanged c (b.clients c) }
quiet m b k x a d clear (Calls.estimated {c = c} {e = v} {x = y} there) q =
    let few : v.active < 2 ^ 32 = omega (arith, denied m b (SetEstimate c v) ActiveAboveFrames clear, k.small) in
    let small : Small (Some v) = λ n e. omega (arith, same_Some v.active n e, few) in
    record {
      frames = refl;
      free = refl;
      each = put_each b.clients c (Some (with_estimate y (Some v))) (λ i o. Alike i (b.clients i) o) (rw there (reestimated c y (Some v) (λ _. small))) (λ i ne. unchanged i (b.clients i));
    }
quiet m b k x a d clear (Calls.clocked {t = t}) q = record { frames = refl; free = refl; each = λ c. clocked t c (b.clients c) }
quiet m b k x a d clear e q = absurd q

alike_fit : (F G c : ℕ) (o p : Option Client) → G ≡ F → Alike c o p → Fit F c o → Fit G c p
alike_fit F G c o p e a f =
    record {
      fits = omega (arith, f.fits, ap length a.stack, a.high);
      order = omega (arith, f.order, a.low, a.high);
      within = omega (arith, f.within, a.high, e);
      sound = a.sound f.sound;
    }

pub quiet_kept : (b d : Broker) → Quiet b d → Kept b → Kept d
quiet_kept b d q k =
    record {
      small = omega (arith, k.small, q.frames);
      all = omega (arith, k.all, q.frames, ap length q.free, upto_same 256 (λ c. held_of (d.clients c)) (λ c. held_of (b.clients c)) (λ c i. ap length (q.each c).stack));
      room = omega (arith, k.room, q.frames, upto_same 256 (λ c. low_of (d.clients c)) (λ c. low_of (b.clients c)) (λ c i. (q.each c).low));
      each_fits = λ c. alike_fit b.frames d.frames c (b.clients c) (d.clients c) q.frames (q.each c) (k.each_fits c);
    }
