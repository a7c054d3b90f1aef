-- Every call on a broker that a history leads to is answered: refused by the first entry that it meets, else accepted.
use Rattle.std.proofs.Common.{◌≡◌, ℕ, ◌+◌, ◌<◌, true, ◌⊎◌, List, [], ◌∷◌, length, Some, None, Option, refl, ap, ◌∙◌, subst, inl, inr, arith, Ok, Err, Result}
use mathlib.Core.Bool.{Bool-discrete}
use mathlib.Core.Logic.Dec
use native.Mathlib.Decide.{ℕ_discrete, dec_le, dec_lt, map_dec}
use Rattle.rules.specs.declared.refusal.Refusal.{Refusal}
use Rattle.rules.specs.declared.refusal.Refusal.TheVariants.{NotAdmitted, Outbid, HoldsNoFrame}
use Rattle.rules.specs.Offers.{Meaning, Lawful}
use Rattle.rules.specs.Rank.{above}
use Rattle.rules.specs.Refusals.{Entry, First, Clear, Outside}
use Rattle.laws.specs.Division.{minimum_of, bid_of}
use Rattle.laws.specs.Broker.{SlipNumbers, Broker, holding, present, MayTake, IsOutbid}
use Rattle.laws.specs.Calls
use Rattle.laws.specs.Calls.{Call, Start, Admit, Ask, Deliver, HandBack, Leave, SetEstimate, SetClock, Answer, Effect, Step, IsClear, entries}
use Rattle.laws.specs.Questions.{LowestIs}
use Rattle.laws.specs.Laws.{EveryCallIsAnswered, LowestPayerIsFound}
use Rattle.laws.proofs.Sums.{below_or_not}
use Rattle.laws.proofs.Payer.{payer}
use Rattle.laws.proofs.One.{one_payer}
use Rattle.laws.proofs.Refused.{denied}
use Rattle.laws.proofs.Kept.{Kept, held_of, none_some, some_there}
use Rattle.laws.proofs.Runs.{contest_of, held_fits, history_kept}

-- each entry of a list is met or not
abbrev Decided : List Entry → Type 0
Decided [] = Unit {0}
Decided (e ∷ es) = Dec e.when × Decided es

settle : (es : List Entry) → Decided es → ((r : Refusal) × First es r) ⊎ Clear es
settle [] d = inr tt
settle (e ∷ es) (yes h, d) = inl (e.refusal, inl (h, refl))
settle (e ∷ es) (no h, d) = elim (settle es d) [ inl (r, f) ↦ inl (r, inr (h, f)) | inr c ↦ inr (h, c) ]

dec_or : {A B : Type 0} → Dec A → Dec B → Dec (A ⊎ B)
dec_or (yes a) e = yes (inl a)
dec_or (no a) (yes b) = yes (inr b)
dec_or (no a) (no b) = no (λ u. elim u [ inl x ↦ a x | inr y ↦ b y ])

not_dec : {A : Type 0} → Dec A → Dec (A → ⊥)
not_dec d = Dec.not d

dec_none : {A : Type 0} (o : Option A) → Dec (o ≡ None)
dec_none (Some a) = no (λ e. none_some e refl)
dec_none None = yes refl

dec_outside : (l h n : ℕ) → Dec (Outside l h n)
dec_outside l h n = dec_or (dec_lt n l) (dec_lt h n)

dec_slip : (s t : SlipNumbers) → Dec (s ≡ t)
dec_slip s t =
    map_dec (λ e i. record { unit = e.0 i; client = e.1.0 i; frame = e.1.1.0 i; former = e.1.1.1.0 i; asks = e.1.1.1.1 i })
    (λ e. (ap (λ q. q.unit) e, (ap (λ q. q.client) e, (ap (λ q. q.frame) e, (ap (λ q. q.former) e, ap (λ q. q.asks) e)))))
    (Dec.and (ℕ_discrete s.unit t.unit) (Dec.and (ℕ_discrete s.client t.client) (Dec.and (ℕ_discrete s.frame t.frame) (Dec.and (ℕ_discrete s.former t.former) (ℕ_discrete s.asks t.asks)))))

pub dec_this : (o : Option SlipNumbers) (s : SlipNumbers) → Dec (o ≡ Some s)
dec_this (Some t) s = elim (dec_slip t s) [ yes e ↦ yes (ap Some e) | no f ↦ no (λ p. f (cc)) ]
dec_this None s = no (λ e. none_some refl e)

top_of : (fs : List ℕ) → (length fs ≡ 0 → ⊥) → (f : ℕ) × (gs : List ℕ) × (fs ≡ f ∷ gs)
top_of [] h = absurd (h refl)
top_of (f ∷ gs) h = (f, gs, refl)

module _ (m : Meaning) (l : Lawful m) (b : Broker) (k : Kept b) where
  some_lowest : (p : Option ℕ) × LowestIs m b p
  some_lowest =
      elim (below_or_not 256 (minimum_of (present b)) (holding b)) [
        | inl (d, i, g) ↦ let (p, y) = payer (contest_of m l b k) (holding b) (held_fits m l b k) d g in (Some p, record { beyond = y.beyond; lowest = y.lowest })
        | inr a ↦ (None, λ c g. omega (arith, a c ((contest_of m l b k).numbered c (omega (arith, g, held_fits m l b k c))), g))
      ]

  -- c is below its minimum, or outbids p
  abbrev Beats : ℕ → ℕ → Type 0
  Beats c p = (holding b c < minimum_of (present b) c) ⊎ (above (bid_of m (present b) c (holding b c + 1)) (bid_of m (present b) p (holding b p)) ≡ true)

  -- c may take a frame of someone, or of no one
  abbrev Taking : ℕ → Type 0
  Taking c = ((p : ℕ) × MayTake m b c p) ⊎ ((p : ℕ) → MayTake m b c p → ⊥)

  taking : (c : ℕ) → Taking c
  taking c = go some_lowest.0 some_lowest.1
    where
      beats : (p : ℕ) → Dec (Beats c p)
      beats p = dec_or (dec_lt (holding b c) (minimum_of (present b) c)) (Bool-discrete _ true)

      go : (o : Option ℕ) → LowestIs m b o → Taking c
      go (Some p) low = elim (beats p) [ yes h ↦ inl (p, (low, h)) | no f ↦ inr (λ q t. f (subst (Beats c) (one_payer m b q p t.0 low) t.1)) ]
      go None none = inr (λ p t. none p t.0.beyond)

  dec_outbid : (c : ℕ) → Dec (IsOutbid m b c)
  dec_outbid c = go b.free refl (taking c)
    where
      go : (fs : List ℕ) → b.free ≡ fs → Taking c → Dec (IsOutbid m b c)
      go (f ∷ fs) e t = no (λ o. let none = o.0 in cc)
      go [] e (inl (p, t)) = no (λ o. o.1 p t)
      go [] e (inr f) = yes (e, f)

  closed : Dec (Calls.Open b)
  closed = Dec.not (dec_none b.passage)

  absent : (c : ℕ) → Dec (Calls.Absent b c)
  absent c = dec_none (b.clients c)

  decided : (x : Call) → Decided (entries m b x)
  decided (Leave c) = search (dec_or, dec_lt, dec_le, dec_none, ℕ_discrete, not_dec, dec_this, dec_outbid)
  decided x = search (dec_or, dec_lt, dec_le, dec_none, ℕ_discrete, not_dec, dec_this, dec_outbid)

  abbrev Answers : Call → Type 0
  Answers x = (a : Answer) × (d : Broker) × Effect m b x a d

  asks : (c : ℕ) → IsClear m b (Ask c) → Answers (Ask c)
  asks c clear = go b.free refl (taking c)
    where
      go : (fs : List ℕ) → b.free ≡ fs → Taking c → Answers (Ask c)
      go (f ∷ fs) e t = let (x, i) = some_there (b.clients c) (denied m b (Ask c) NotAdmitted clear) in (_, _, Calls.granted_free i e)
      go [] e (inr f) = absurd (denied m b (Ask c) Outbid clear (e, f))
      go [] e (inl (p, t)) =
          let (x, i) = some_there (b.clients c) (denied m b (Ask c) NotAdmitted clear) in
          let (y, j) = some_there (b.clients p) (λ n. omega (arith, t.0.beyond, ap held_of n)) in
          let (f, gs, q) = top_of y.stack (λ n. omega (arith, t.0.beyond, ap held_of j)) in
          (_, _, Calls.granted_from i e t j q)

  accepted : (x : Call) → IsClear m b x → Answers x
  accepted (Start u F) clear = (_, _, Calls.started)
  accepted (Admit a) clear = (_, _, Calls.admitted)
  accepted (Ask c) clear = asks c clear
  accepted (Deliver s) clear = (_, _, Calls.delivered)
  accepted (HandBack c) clear =
      let (x, i) = some_there (b.clients c) (denied m b (HandBack c) NotAdmitted clear) in
      let (f, gs, q) = top_of x.stack (λ n. denied m b (HandBack c) HoldsNoFrame clear (ap held_of i ∙ n)) in
      (_, _, Calls.handed_back i q)
  accepted (Leave c) clear = let (x, i) = some_there (b.clients c) (denied m b (Leave c) NotAdmitted clear) in (_, _, Calls.left i)
  accepted (SetEstimate c e) clear = let (x, i) = some_there (b.clients c) (denied m b (SetEstimate c e) NotAdmitted clear) in (_, _, Calls.estimated i)
  accepted (SetClock t) clear = (_, _, Calls.clocked)

  pub answers : (x : Call) → (a : Result Answer Refusal) × (d : Broker) × Step m b x a d
  answers x = elim (settle (entries m b x) (decided x)) [ inl (r, f) ↦ (Err r, b, Calls.refused f) | inr clear ↦ let (a, d, e) = accepted x clear in (Ok a, d, Calls.accepted clear e) ]

one_lowest : (m : Meaning) (b : Broker) (p q : Option ℕ) → LowestIs m b p → LowestIs m b q → p ≡ q
one_lowest m b (Some p) (Some q) u v = ap Some (one_payer m b p q u v)
one_lowest m b (Some p) None u v = absurd (v p u.beyond)
one_lowest m b None (Some q) u v = absurd (u q v.beyond)
one_lowest m b None None u v = refl

pub lowest_payer_is_found : LowestPayerIsFound
lowest_payer_is_found = record { one = one_lowest; found = λ m l h b r. some_lowest m l b (history_kept m l h b r) }

pub every_call_is_answered : EveryCallIsAnswered
every_call_is_answered m l h b r x = answers m l b (history_kept m l h b r) x
