-- A clock that drops one estimate after another makes one step.
use Rattle.std.proofs.Common.{◌≡◌, ℕ, ◌+◌, ◌≤◌, Some, None, Ok, Option, sym, refl, ap, ◌∙◌, arith}
use mathlib.Core.Path.{fun_ext}
use Rattle.std.proofs.lemmas.Bool.Decides.{nat_tests}
use Rattle.rules.specs.Offers.{Meaning}
use Rattle.laws.specs.ByNumber.{total, Numbered, put}
use Rattle.laws.specs.Broker.{Estimate, Client, Broker}
use Rattle.laws.specs.Calls.{SetClock, Count, IsClear, with_estimate, lasts, lasting, ended, ends, Step}
use Rattle.laws.specs.Calls as Calls
use Rattle.laws.proofs.Sums.{upto_same, upto_zero}
use Rattle.laws.proofs.Puts.{put_each, put_sum}
use Rattle.pool.specs.Clocks.{DropsMany}
use Rattle.pool.proofs.Records.{upto_few}

-- an estimate that ends by the tick is dropped by it
dropped : (t : ℕ) (v : Option Estimate) → ended t v ≡ 1 → lasts t v ≡ None
dropped t v h = grind (arith, nat_tests)

-- an estimate that does not end by the tick is left as it is
left : (t : ℕ) (v : Option Estimate) → ended t v ≡ 0 → lasts t v ≡ v
left t v h = grind (arith, nat_tests)

all_left : (t : ℕ) (o : Option Client) → ends t o ≡ 0 → lasting t o ≡ o
all_left t (Some x) h = ap (λ v. Some (with_estimate x v)) (left t x.estimate h)
all_left t None h = refl

module _ (t : ℕ) (ds : ℕ → Option Client) (c : ℕ) (x : Client) (i : Numbered c) (e : ds c ≡ Some x) (h : ended t x.estimate ≡ 1) where
  -- each estimate dropped leaves one less to drop
  pub many_falls : total (λ d. ends t (put ds c (Some (with_estimate x None)) d)) + 1 ≡ total (λ d. ends t (ds d))
  many_falls = omega (arith, put_sum ds c (Some (with_estimate x None)) (ends t) i, ap (ends t) e, h)

  pub many_one : (cs : ℕ → Option Client) (n : ℕ) → DropsMany t cs n ds → DropsMany t cs (n + 1) (put ds c (Some (with_estimate x None)))
  many_one cs n k =
      record {
        last = put_each ds c (Some (with_estimate x None)) (λ d o. lasting t o ≡ lasting t (cs d)) (without ∙ k.last c) (λ d ne. k.last d);
        count = omega (arith, k.count, many_falls);
      }
    where
      without : lasting t (Some (with_estimate x None)) ≡ lasting t (ds c)
      without = ap (λ v. Some (with_estimate x v)) (sym (dropped t x.estimate h)) ∙ ap (lasting t) (sym e)

ends_one : (t : ℕ) (o : Option Client) → ends t o ≤ 1
ends_one t o = grind (arith, nat_tests)

pub few_end : (t : ℕ) (cs : ℕ → Option Client) → total (λ c. ends t (cs c)) ≤ 256
few_end t cs = upto_few 1 256 (λ c. ends t (cs c)) (λ c. ends_one t (cs c))

pub clock_step : (m : Meaning) (b : Broker) (t n : ℕ) (ds : ℕ → Option Client) → IsClear m b (SetClock t) → DropsMany t b.clients n ds → ((c : ℕ) → ends t (ds c) ≡ 0) →
    Step m b (SetClock t) (Ok (Count n)) (record b { tick = t; clients = ds })
clock_step m b t n ds clear k h =
    let same : ds ≡ (λ c. lasting t (b.clients c)) = fun_ext (λ c. sym (all_left t (ds c) (h c)) ∙ k.last c) in
    let counted : n ≡ total (λ c. ends t (b.clients c)) = omega (arith, k.count, upto_same 256 (λ c. ends t (ds c)) (λ _. 0) (λ c i. h c), upto_zero 256) in
    rw (same, counted) (Calls.accepted clear Calls.clocked)
