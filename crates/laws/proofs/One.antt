-- A call has one answer, and leaves one broker.
use Rattle.std.proofs.Common.{◌≡◌, ℕ, ◌⊎◌, List, [], ◌∷◌, sym, refl, ap, ◌∙◌, inl, inr, arith, Ok, Err, Result}
use Rattle.rules.specs.declared.refusal.Refusal.{Refusal}
use Rattle.rules.specs.Offers.{Meaning}
use Rattle.rules.specs.Refusals.{Entry, First, Clear}
use Rattle.rules.proofs.RankIsOneOrder.{decided}
use Rattle.laws.specs.Division.{bid_of}
use Rattle.laws.specs.Broker.{Broker, holding, present, LowestPayer}
use Rattle.laws.specs.Calls
use Rattle.laws.specs.Calls.{Call, Answer, Effect, Step, IsClear, RefusedBy, entries}
use Rattle.laws.specs.Laws.{OneAnswer}

pub one_first : (es : List Entry) (r q : Refusal) → First es r → First es q → r ≡ q
one_first [] r q u v = absurd u
one_first (e ∷ es) r q (inl u) (inl v) = u.1 ∙ sym v.1
one_first (e ∷ es) r q (inl u) (inr v) = absurd (v.0 u.0)
one_first (e ∷ es) r q (inr u) (inl v) = absurd (u.0 v.0)
one_first (e ∷ es) r q (inr u) (inr v) = one_first es r q u.1 v.1

pub first_or_clear : (es : List Entry) (r : Refusal) → First es r → Clear es → ⊥
first_or_clear [] r u v = u
first_or_clear (e ∷ es) r (inl u) v = v.0 u.0
first_or_clear (e ∷ es) r (inr u) v = first_or_clear es r u.1 v.1

-- there is one lowest payer
pub one_payer : (m : Meaning) (b : Broker) (p q : ℕ) → LowestPayer m b p → LowestPayer m b q → p ≡ q
one_payer m b p q u v =
    grind (arith, decided (bid_of m (present b) p (holding b p)) (bid_of m (present b) q (holding b q)), u.lowest q v.beyond, v.lowest p u.beyond)

module _ (m : Meaning) (b : Broker) where
  -- an accepted call has one effect
  one_effect : (x : Call) (a c : Answer) (d e : Broker) → Effect m b x a d → Effect m b x c e → (a ≡ c) × (d ≡ e)
  one_effect x a c d e Calls.started Calls.started = (refl, refl)
  one_effect x a c d e Calls.admitted Calls.admitted = (refl, refl)
  one_effect x a c d e (Calls.granted_free g h) (Calls.granted_free i j) = (cc, cc)
  one_effect x a c d e (Calls.granted_free g h) (Calls.granted_from i j u v w) = absurd (cc)
  one_effect x a c d e (Calls.granted_from g h k l n) (Calls.granted_free i j) = absurd (cc)
  one_effect x a c d e (Calls.granted_from {p = p} g h k l n) (Calls.granted_from {p = q} i j u v w) = let o = one_payer m b p q k.0 u.0 in (cc, cc)
  one_effect x a c d e Calls.delivered Calls.delivered = (refl, refl)
  one_effect x a c d e (Calls.handed_back g h) (Calls.handed_back i j) = (cc, cc)
  one_effect x a c d e (Calls.left g) (Calls.left i) = (cc, cc)
  one_effect x a c d e (Calls.estimated g) (Calls.estimated i) = (cc, cc)
  one_effect x a c d e Calls.clocked Calls.clocked = (refl, refl)

  -- a step is a refusal that changes nothing, or the call is clear
  abbrev pub Kind : Call → Result Answer Refusal → Broker → Type 0
  Kind x a d = ((r : Refusal) × RefusedBy m b x r × (a ≡ Err r) × (d ≡ b)) ⊎ IsClear m b x

  pub kind : (x : Call) (a : Result Answer Refusal) (d : Broker) → Step m b x a d → Kind x a d
  kind x a d (Calls.refused {r = r} q) = inl (r, q, refl, refl)
  kind x a d (Calls.accepted clear e) = inr clear

pub one_answer : OneAnswer
one_answer m b x a c d e (Calls.refused {r = r} q) (Calls.refused {r = s} t) = (ap Err (one_first (entries m b x) r s q t), refl)
one_answer m b x a c d e (Calls.refused {r = r} q) (Calls.accepted clear t) = absurd (first_or_clear (entries m b x) r q clear)
one_answer m b x a c d e (Calls.accepted clear s) (Calls.refused {r = r} q) = absurd (first_or_clear (entries m b x) r q clear)
one_answer m b x a c d e (Calls.accepted {a = i} _ s) (Calls.accepted {a = j} _ t) = let o = one_effect m b x i j d e s t in (ap Ok o.0, o.1)
