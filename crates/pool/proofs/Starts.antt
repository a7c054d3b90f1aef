-- A new broker, and one that is given its frames.
use Rattle.std.proofs.Common.{◌≡◌, ℕ, [], None, Ok, Option, sym, refl, ap, ◌∙◌, arith}
use mathlib.Core.Path.{fun_ext}
use Rattle.std.proofs.lemmas.List.{nil_from_length}
use Rattle.rules.specs.Offers.{Meaning}
use Rattle.laws.specs.Broker as rules
use Rattle.laws.specs.Broker.{SlipNumbers, new_broker}
use Rattle.laws.specs.Calls.{Start, Done, Step, accepted, started, IsClear}
use Rattle.ledger.specs.declared.ledger.Ledger.{Ledger}
use Rattle.ledger.specs.Ledgers.{stack_of, Started}
use Rattle.ledger.proofs.Ledgers.{holding_few, no_owner}
use Rattle.pool.specs.Records.{Member}
use Rattle.pool.specs.Members.{Members, member_of}
use Rattle.pool.specs.View.{Pool, view, client_of}
use Rattle.pool.proofs.Views.{seen, from_parts, same_client}

pub new_view : (t : Members) (l : Ledger) → ((c : ℕ) → member_of t c ≡ None) → l.frames ≡ 0 → ((o : ℕ) → stack_of l o ≡ []) → seen new_broker t l ≡ new_broker
new_view t l none e f =
    from_parts (λ (d : rules.Broker). d ≡ new_broker) new_broker e (f 0) (fun_ext (λ c. ap (λ (o : Option Member). client_of o (stack_of l c)) (none c))) refl

no_stack : (l : Ledger) → l.frames ≡ 0 → (o : ℕ) → stack_of l o ≡ []
no_stack l e o =
    grind (arith, holding_few l o, nil_from_length (stack_of l o), no_owner l o)

pub start_step : (m : Meaning) (b : Pool) (k : Ledger) (u F : ℕ) → Started b.ledger k F → IsClear m (view b) (Start u F) →
    Step m (view b) (Start u F) (Ok Done) (seen (record (view b) { unit = u }) b.members k)
start_step m b k u F s clear =
    from_parts (Step m (view b) (Start u F) (Ok Done)) (record (view b) { unit = u }) s.frames s.all_free.free
    (fun_ext (λ c. same_client b.members (stack_of b.ledger) (stack_of k) c (λ pos. s.all_free.others c pos ∙ sym (no_stack b.ledger s.none_before c)))) (accepted clear started)
