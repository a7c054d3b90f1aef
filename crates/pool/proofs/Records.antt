-- The table of the clients' records.
use Rattle.std.proofs.Common.{◌≡◌, ℕ, zero, suc, ◌+◌, ◌-◌, ◌*◌, ◌≤◌, set, replicate, None, Some, Option, sym, refl, ap, ◌∙◌, subst, add-one, arith, ◌≢◌}
use Rattle.std.specs.Map.{update}
use Rattle.std.specs.Prelude.{nat_eq}
use Rattle.std.proofs.lemmas.List.{get_or-set_same, get_or_past}
use Rattle.std.proofs.lemmas.Map.{update_here, update_apart}
use Rattle.heap.specs.Indexed.{keys_in}
use Rattle.laws.specs.ByNumber.{upto, total, Numbered, put, by_number}
use Rattle.laws.proofs.Puts.{each_but, put_each, put_sum}
use Rattle.laws.proofs.Sums.{upto_same, upto_zero, at_le_upto}
use Rattle.laws.proofs.Table.{number_off}
use Rattle.ledger.proofs.Fills.{same_at}
use Rattle.laws.proofs.Kept.{none_some}
use Rattle.pool.specs.declared.ends.End.{End}
use Rattle.pool.specs.Ends.{tick_of}
use Rattle.pool.specs.Records.{Member, shares_in, minimum_in, end_in, KeepsEnds}
use Rattle.pool.specs.Members.{Members, member_of}

-- where no number is more than k, n of them together are no more than n times k
pub upto_few : (k n : ℕ) (f : ℕ → ℕ) → ((c : ℕ) → f c ≤ k) → upto n f ≤ k * n
unfolding upto
upto_few k zero f h = omega arith
upto_few k (suc n) f h = omega (arith, upto_few k n f h, h (suc n))

pub upto_next : (n : ℕ) (f : ℕ → ℕ) → upto (n + 1) f ≡ upto n f + f (suc n)
unfolding upto
upto_next n f = rw add-one refl

pub few_shares : (o : Option Member) → shares_in o ≤ 1_000_000
few_shares (Some x) = omega (arith, x.few_shares)
few_shares None = omega arith

pub few_minimum : (o : Option Member) → minimum_in o ≤ 4_096
few_minimum (Some x) = omega (arith, x.ordered, x.few_frames)
few_minimum None = omega arith

-- an empty table has nobody
pub nobody : {A : Type 0} (n c : ℕ) → ◌≡◌ {A = Option A} (by_number (replicate n None) c) None
nobody n zero = refl
nobody n (suc i) = same_at None n i

pub nothing_summed : 0 ≡ total (λ c. minimum_in (by_number (replicate 256 None) c))
nothing_summed = omega (arith, upto_zero 256, upto_same 256 (λ c. minimum_in (by_number (replicate 256 None) c)) (λ _. 0) (λ c i. ap minimum_in (nobody 256 c)))

pub few_minimums : (t : Members) → t.minimums ≤ 4_096 * 256
few_minimums t = omega (arith, upto_few 4_096 256 (λ d. minimum_in (member_of t d)) (λ d. few_minimum (member_of t d)), t.summed)

-- a member has a client number
pub member_numbered : (t : Members) (c : ℕ) (x : Member) → member_of t c ≡ Some x → Numbered c
member_numbered t zero x e = absurd (none_some refl e)
member_numbered t (suc i) x e = grind (arith, t.places, e, get_or_past t.table i None)

module _ (t : Members) (c : ℕ) (n : Numbered c) where
  -- all together are no less than each of them
  pub minimum_among : minimum_in (member_of t c) ≤ t.minimums
  minimum_among = omega (arith, at_le_upto 256 (λ d. minimum_in (member_of t d)) c n, t.summed)

  pub shares_among : shares_in (member_of t c) ≤ total (λ d. shares_in (member_of t d))
  shares_among = at_le_upto 256 (λ d. shares_in (member_of t d)) c n

  set_here : (v : Option Member) → by_number (set t.table (c - 1) v) c ≡ v
  set_here v =
      let e : suc (c - 1) ≡ c = omega arith in
      subst (λ (k : ℕ). by_number (set t.table (c - 1) v) k ≡ v) e (get_or-set_same t.table (c - 1) v None (omega (arith, t.places)))

  set_off : (v : Option Member) (d : ℕ) → d ≢ c → by_number (set t.table (c - 1) v) d ≡ member_of t d
  set_off v d ne = number_off t.table (c - 1) v d (omega arith)

  pub set_put : (v : Option Member) (d : ℕ) → by_number (set t.table (c - 1) v) d ≡ put (member_of t) c v d
  set_put v = put_each (member_of t) c v (λ d z. by_number (set t.table (c - 1) v) d ≡ z) (set_here v) (set_off v)

  -- where the end of the estimate in a record is put among the ends, they are those of the records still
  pub set_end : (v : Option Member) (e : Option End) (es : ℕ → Option End) → tick_of e ≡ end_in v → ((d : ℕ) → es d ≡ update nat_eq (keys_in t.ends) c e d) →
      KeepsEnds (set t.table (c - 1) v) (λ d. tick_of (es d))
  set_end v e es tick change =
      each_but c (λ d. tick_of (es d) ≡ end_in (by_number (set t.table (c - 1) v) d))
      (ap tick_of (change c ∙ update_here (keys_in t.ends) c e) ∙ (tick ∙ ap end_in (sym (set_here v))))
      (λ d ne. ap tick_of (change d ∙ update_apart (keys_in t.ends) c e d ne) ∙ (t.ends_kept d ∙ ap end_in (sym (set_off v d ne))))

  pub set_sum : (v : Option Member) → t.minimums - minimum_in (member_of t c) + minimum_in v ≡ total (λ d. minimum_in (by_number (set t.table (c - 1) v) d))
  set_sum v =
      let same = upto_same 256 (λ d. minimum_in (by_number (set t.table (c - 1) v) d)) (λ d. minimum_in (put (member_of t) c v d)) (λ d i. ap minimum_in (set_put v d)) in
      omega (arith, minimum_among, t.summed, same, put_sum (member_of t) c v minimum_in n)
