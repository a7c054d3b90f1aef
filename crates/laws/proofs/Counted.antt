-- The count of asks is that of the asks accepted.
use Rattle.std.proofs.Common.{◌≡◌, ℕ, ◌+◌, ◌%◌, ◌^◌, refl, ap, ◌∙◌, arith, Result}
use Rattle.std.proofs.Math.Nat.{mod-add-mod}
use Rattle.rules.specs.declared.refusal.Refusal.{Refusal}
use Rattle.rules.specs.Offers.{Meaning}
use Rattle.laws.specs.Broker.{Broker}
use Rattle.laws.specs.Calls
use Rattle.laws.specs.Calls.{Call, Answer, Step}
use Rattle.laws.specs.Histories.{start, then, grant, grants}
use Rattle.laws.specs.Laws.{AsksAreCounted}

one_more : (i n : ℕ) → i ≡ n % 2 ^ 64 → (i + 1) % 2 ^ 64 ≡ (1 + n) % 2 ^ 64
one_more i n e = ap (λ (i : ℕ). (i + 1) % 2 ^ 64) e ∙ mod-add-mod n (2 ^ 64) 1 ∙ ap (λ (i : ℕ). i % 2 ^ 64) (omega arith)

no_more : (i n : ℕ) → i ≡ n % 2 ^ 64 → i ≡ (0 + n) % 2 ^ 64
no_more i n e = e ∙ ap (λ (i : ℕ). i % 2 ^ 64) (omega arith)

step_counted : (m : Meaning) (b : Broker) (x : Call) (a : Result Answer Refusal) (d : Broker) (n : ℕ) → b.asks ≡ n % 2 ^ 64 → Step m b x a d → d.asks ≡ (grant a + n) % 2 ^ 64
step_counted m b x a d n e (Calls.refused r) = no_more b.asks n e
step_counted m b x a d n e (Calls.accepted clear (Calls.granted_free there free)) = one_more b.asks n e
step_counted m b x a d n e (Calls.accepted clear (Calls.granted_from there free t i j)) = one_more b.asks n e
step_counted m b x a d n e (Calls.accepted clear Calls.started) = no_more b.asks n e
step_counted m b x a d n e (Calls.accepted clear Calls.admitted) = no_more b.asks n e
step_counted m b x a d n e (Calls.accepted clear Calls.delivered) = no_more b.asks n e
step_counted m b x a d n e (Calls.accepted clear (Calls.handed_back there g)) = no_more b.asks n e
step_counted m b x a d n e (Calls.accepted clear (Calls.left there)) = no_more b.asks n e
step_counted m b x a d n e (Calls.accepted clear (Calls.estimated there)) = no_more b.asks n e
step_counted m b x a d n e (Calls.accepted clear Calls.clocked) = no_more b.asks n e

pub asks_are_counted : AsksAreCounted
unfolding grants
asks_are_counted m l h b start = refl
asks_are_counted m l h b (then {x = x} {a = a} {d = d} {h = k} r s) = step_counted m d x a b _ (asks_are_counted m l k d r) s
