-- At rest the holdings are the settled division, and the only one.
use Rattle.std.proofs.Common.{◌≡◌, ℕ, ◌≤◌, ◌⊎◌, List, ◌++◌, length, Some, None, Option, refl, ap, subst, inl, inr, arith, Err, Result}
use Rattle.rules.specs.declared.refusal.Refusal.TheVariants.{NotAdmitted, AtMaximum, Outbid}
use Rattle.rules.specs.declared.refusal.Refusal.{Refusal}
use Rattle.rules.specs.Offers.{Meaning, Lawful}
use Rattle.laws.specs.Division.{Settled, capped, minimum_of}
use Rattle.laws.specs.Broker.{Broker, Client, new_broker, present, holding, maximum_of, IsOutbid}
use Rattle.laws.specs.Calls.{Call, Ask, Answer, Step, RefusedBy, Absent}
use Rattle.laws.specs.Histories.{Event, event, Run, start, then, reached, TurnsAway, TurnedAway, AtRest}
use Rattle.laws.specs.Guarantees.{RestsSettled}
use Rattle.laws.proofs.Unique.{division_is_unique}
use Rattle.laws.proofs.Resting.{OutbidAt, settled}
use Rattle.laws.proofs.Refused.{reason, passed}
use Rattle.laws.proofs.Kept.{Kept, high_of}
use Rattle.laws.proofs.Runs.{all_sound, contest_of, cap_is, held_fits, refused_step, refused_by, history_kept, earlier_run}

-- the client can get nothing: it is at its maximum, or outbid
abbrev pub GetsNothing : Meaning → Broker → ℕ → Type 0
GetsNothing m b c = (maximum_of b c ≤ holding b c) ⊎ IsOutbid m b c

-- an ask refused as at the maximum, or as outbid, has met just that, and comes from a client that is admitted
met : (m : Meaning) (b : Broker) (c : ℕ) (r : Refusal) → (r ≡ AtMaximum) ⊎ (r ≡ Outbid) → RefusedBy m b (Ask c) r → (Absent b c → ⊥) × GetsNothing m b c
met m b c r (inl e) f =
    let g = subst (RefusedBy m b (Ask c)) e f in (passed m b (Ask c) AtMaximum NotAdmitted g (omega arith), inl (reason m b (Ask c) AtMaximum g))
met m b c r (inr e) f =
    let g = subst (RefusedBy m b (Ask c)) e f in (passed m b (Ask c) Outbid NotAdmitted g (omega arith), inr (reason m b (Ask c) Outbid g))

-- an ask that turns a client away changes nothing; the client is admitted, and can get nothing
pub turned : (m : Meaning) (b : Broker) (c : ℕ) (x : Call) (a : Result Answer Refusal) (d : Broker) → TurnsAway c (event x a d) → Step m b x a d →
    (d ≡ b) × (Absent b c → ⊥) × GetsNothing m b c
turned m b c x a d (e, w) s =
    let (r, f, which) : (r : Refusal) × (a ≡ Err r) × ((r ≡ AtMaximum) ⊎ (r ≡ Outbid)) = elim w [ inl f ↦ (AtMaximum, f, inl refl) | inr f ↦ (Outbid, f, inr refl) ] in
    let q = subst (λ y. Step m b y (Err r) d) e (subst (λ z. Step m b x z d) f s) in
    let (there, nothing) = met m b c r which (refused_by m b (Ask c) r d q) in
    ((refused_step m b (Ask c) (Err r) d (λ n. n) q).3, there, nothing)

-- who was turned away, with nothing accepted since, can get nothing now
away : (m : Meaning) (b : Broker) (c : ℕ) (h : List Event) (d : Broker) → Run m b h d → TurnedAway c h → GetsNothing m d c
away m b c h d start t = absurd t
away m b c h d (then {x = x} {a = a} {d = e} {h = i} r s) (inl t) = let (q, there, g) = turned m e c x a d t s in rw q g
away m b c h d (then {x = x} {a = a} {d = e} {h = i} r s) (inr (n, t)) = rw (refused_step m e x a d n s).3 (away m b c i e r t)

module _ (m : Meaning) (l : Lawful m) (b : Broker) (k : Kept b) where
  pub outbid_at : (c : ℕ) → IsOutbid m b c → OutbidAt (contest_of m l b k) (holding b) (length b.free) c
  outbid_at c o = (ap length o.0, λ p y. o.1 p (record { beyond = y.0.beyond; lowest = y.0.lowest }, y.1))

  -- with everyone at its maximum or outbid, the holdings are settled
  settled_now : ((c : ℕ) (x : Client) → b.clients c ≡ Some x → GetsNothing m b c) → Settled m b.frames (present b) (holding b)
  settled_now nothing =
      let fits = held_fits m l b k in
      let (from, sum, ranked) = settled (contest_of m l b k) (holding b) fits b.frames (length b.free) k.all k.room lows rest in
      record { from = from; to = fits; sum = sum; ranked = ranked }
    where
      lows : (c : ℕ) → minimum_of (present b) c ≤ capped b.frames (present b) c
      lows c = omega (arith, cap_is m l b k c, (k.each_fits c).order)

      gets : (c : ℕ) (o : Option Client) → b.clients c ≡ o → GetsNothing m b c
      gets c (Some x) e = nothing c x e
      gets c None e = inl (omega (arith, ap high_of e))

      rest : (c : ℕ) → (holding b c ≡ capped b.frames (present b) c) ⊎ OutbidAt (contest_of m l b k) (holding b) (length b.free) c
      rest c = elim (gets c (b.clients c) refl) [ inl h ↦ inl (omega (arith, cap_is m l b k c, (k.each_fits c).fits)) | inr o ↦ inr (outbid_at c o) ]

  rests_settled : ((c : ℕ) (x : Client) → b.clients c ≡ Some x → GetsNothing m b c) → RestsSettled m b
  rests_settled nothing =
      let now = settled_now nothing in
      record {
        settled = now;
        only = λ n s. division_is_unique m l b.frames k.small (present b) (all_sound m l b k) n (holding b) s now;
      }

pub one_resting_place : (m : Meaning) → Lawful m → (h : List Event) (b : Broker) → Run m new_broker h b →
    (later earlier : List Event) → h ≡ later ++ earlier → AtRest new_broker earlier → RestsSettled m (reached new_broker earlier)
one_resting_place m l h b r later earlier e rest =
    let now = reached new_broker earlier in
    let q = earlier_run m new_broker later earlier b (subst (λ i. Run m new_broker i b) e r) in
    rests_settled m l now (history_kept m l earlier now q) (λ c x i. away m new_broker c earlier now q (rest c x i))
