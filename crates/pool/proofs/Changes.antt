-- Frames handed back, clients that leave, and estimates.
use Rattle.std.proofs.Common.{◌≡◌, ℕ, List, [], ◌∷◌, length, set, Some, None, Ok, Option, refl, ap, ◌∙◌, inl, arith, ◌≢◌}
use Rattle.rules.specs.Offers.{Meaning}
use Rattle.rules.specs.declared.refusal.Refusal.{Refusal}
use Rattle.rules.specs.declared.refusal.Refusal.TheVariants.{HoldsNoFrame}
use Rattle.laws.specs.Broker as rules
use Rattle.laws.specs.Broker.{Estimate, SlipNumbers}
use Rattle.laws.specs.Calls.{HandBack, Leave, SetEstimate, Done, Frame, Count, Step, accepted, handed_back, left, estimated, with_estimate, IsClear, RefusedBy, caller_entries}
use Rattle.rules.specs.Refusals.{Entry, entry}
use Rattle.rules.proofs.Named.{clear_after, first_after}
use Rattle.ledger.specs.declared.ledger.Ledger.{Ledger}
use Rattle.ledger.specs.Ledgers.{stack_of}
use Rattle.ledger.specs.Stacks.{Moved, Freed}
use Rattle.pool.specs.Records.{Member}
use Rattle.pool.specs.Members.{Members, member_of, IsSetAt}
use Rattle.pool.specs.View.{Pool, view, client_with, client_of}
use Rattle.pool.proofs.Records.{member_numbered}
use Rattle.pool.proofs.Views.{seen_with, from_parts}
use Rattle.pool.proofs.Tables.{client_is, changed_clients, set_clients}

-- what a hand-back alone of an admitted client's calls is refused for
abbrev empty_handed : rules.Broker → ℕ → List Entry
empty_handed v c = entry HoldsNoFrame (rules.holding v c ≡ 0) ∷ []

pub hand_back_step : (m : Meaning) (b : Pool) (k : Ledger) (c f : ℕ) (x : Member) → member_of b.members c ≡ Some x → Moved (stack_of b.ledger) (stack_of k) c 0 f → k.frames ≡ b.ledger.frames →
    IsClear m (view b) (Leave c) → Step m (view b) (HandBack c) (Ok (Frame f)) (seen_with b b.members k)
hand_back_step m b k c f x e v same clear =
    let it = client_is b c x e in
    let some : rules.holding (view b) c ≡ 0 → ⊥ = λ z. omega (arith, z, ap (λ (o : Option rules.Client). length (rules.stack_of o)) it, ap length v.taken) in
    let after = changed_clients b b.members (stack_of k) c _ (ap (λ (o : Option Member). client_of o (stack_of k c)) e) (λ d ne. refl) (λ d a o. v.others d o a) in
    from_parts (Step m (view b) (HandBack c) (Ok (Frame f))) (view b) same v.given after
    (accepted (clear_after (caller_entries (view b) c) (empty_handed (view b) c) clear (some, tt)) (handed_back {x = client_with x (stack_of b.ledger c)} it v.taken))

pub leave_step : (m : Meaning) (b : Pool) (t : Members) (k : Ledger) (c r : ℕ) (x : Member) → IsSetAt b.members c None t → member_of b.members c ≡ Some x → (c ≢ 0 → Freed (stack_of b.ledger) (stack_of k) c r) → k.frames ≡ b.ledger.frames →
    IsClear m (view b) (Leave c) → Step m (view b) (Leave c) (Ok (Count r)) (seen_with b t k)
leave_step m b t k c r x set e freed same clear =
    let n = member_numbered b.members c x e in
    let v = freed (λ z. omega (arith, n, z)) in
    let after = set_clients b t (stack_of k) c None None set refl v.others in
    rw v.counted (from_parts (Step m (view b) (Leave c) (Ok (Count (length (stack_of b.ledger c))))) (view b) same v.free after
    (accepted clear (left {x = client_with x (stack_of b.ledger c)} (client_is b c x e))))

pub estimate_step : (m : Meaning) (b : Pool) (t : Members) (c : ℕ) (v : Estimate) (x y : Member) → IsSetAt b.members c (Some y) t → member_of b.members c ≡ Some x → IsClear m (view b) (SetEstimate c v) →
    client_with y (stack_of b.ledger c) ≡ with_estimate (client_with x (stack_of b.ledger c)) (Some v) →
    Step m (view b) (SetEstimate c v) (Ok Done) (seen_with b t b.ledger)
estimate_step m b t c v x y set e clear with_it =
    let after = set_clients b t (stack_of b.ledger) c (Some y) _ set (ap Some with_it) (λ d pos ne. refl) in
    from_parts (Step m (view b) (SetEstimate c v) (Ok Done)) (view b) refl refl after (accepted clear (estimated {x = client_with x (stack_of b.ledger c)} (client_is b c x e)))

-- what every call of an admitted client is refused for is refused for in each of them
pub refused_hand_back : (m : Meaning) (b : rules.Broker) (c : ℕ) (r : Refusal) → RefusedBy m b (Leave c) r → RefusedBy m b (HandBack c) r
refused_hand_back m b c r h = grind arith

-- a client with an empty stack holds no frame
pub refused_empty : (m : Meaning) (b : Pool) (c : ℕ) (x : Member) → member_of b.members c ≡ Some x → stack_of b.ledger c ≡ [] →
    IsClear m (view b) (Leave c) → RefusedBy m (view b) (HandBack c) HoldsNoFrame
refused_empty m b c x e f clear =
    let none = ap (λ (o : Option Member). length (rules.stack_of (client_of o (stack_of b.ledger c)))) e ∙ ap length f in
    first_after (caller_entries (view b) c) (empty_handed (view b) c) HoldsNoFrame clear (inl (none, refl))
