-- Frames granted: from the free stack, or from another client.
use Rattle.std.proofs.Common.{◌≡◌, ℕ, zero, suc, ◌+◌, ◌%◌, ◌^◌, ◌≤◌, ◌≢◌, List, [], ◌∷◌, length, Some, None, Option, refl, ap, ◌∙◌, arith}
use mathlib.Core.Path.{fun_ext}
use Rattle.laws.specs.ByNumber.{put}
use Rattle.laws.specs.Broker as rules
use Rattle.laws.specs.Calls.{slip}
use Rattle.laws.proofs.Kept.{some_there}
use Rattle.laws.proofs.Puts.{put_each}
use Rattle.ledger.specs.declared.ledger.Ledger.{Ledger}
use Rattle.ledger.specs.Ledgers.{stack_of}
use Rattle.ledger.specs.Stacks.{Moved}
use Rattle.pool.specs.Records.{Member}
use Rattle.pool.specs.Members.{member_of}
use Rattle.pool.specs.View.{Pool, view, client_with, client_of, Grants, free, from, nothing}
use Rattle.pool.proofs.Records.{member_numbered}
use Rattle.pool.proofs.Views.{clients_of, seen, from_parts, same_client}
use Rattle.pool.proofs.Tables.{client_is, member_there, there_numbered, changed_clients}

-- a client without frames in its stack has none
none_with : (o : Option Member) (fs : List ℕ) → fs ≡ [] → rules.stack_of (client_of o fs) ≡ []
none_with (Some x) fs e = e
none_with None fs e = refl

module _ (b : Pool) (k : Ledger) (c f : ℕ) (same : k.frames ≡ b.ledger.frames) where
  abbrev before : rules.Broker
  before = view b

  -- the ask counted and its passage open, before and after the grant of the frame from q
  abbrev asked : ℕ → rules.Broker
  asked q = record before { asks = (b.asks + 1) % 2 ^ 64; passage = Some (slip before c f q) }

  abbrev after : ℕ → rules.Broker
  after q = seen (asked q) b.members k

  taker : (x : Member) → member_of b.members c ≡ Some x → stack_of k c ≡ f ∷ stack_of b.ledger c → clients_of b.members (stack_of k) c ≡ Some (client_with x (f ∷ stack_of b.ledger c))
  taker x e given = ap (λ (o : Option Member). client_of o (stack_of k c)) e ∙ ap (λ (fs : List ℕ). Some (client_with x fs)) given

  grant_of_free : (x : Member) → member_of b.members c ≡ Some x → Moved (stack_of b.ledger) (stack_of k) 0 c f → Grants before c 0 (Some (slip before c f 0)) (after 0)
  grant_of_free x e v =
      from_parts (Grants before c 0 (Some (slip before c f 0))) (asked 0) same refl clients (free {x = client_with x (stack_of b.ledger c)} (client_is b c x e) v.taken)
    where
      clients : clients_of b.members (stack_of k) ≡ put before.clients c (Some (client_with x (f ∷ stack_of b.ledger c)))
      clients = changed_clients b b.members (stack_of k) c _ (taker x e v.given) (λ d ne. refl) v.others

  grant_of_client : (q : ℕ) (x y : Member) → member_of b.members c ≡ Some x → member_of b.members q ≡ Some y → q ≢ c → Moved (stack_of b.ledger) (stack_of k) q c f →
      Grants before c q (Some (slip before c f q)) (after q)
  grant_of_client q x y e g ne v =
      from_parts (Grants before c q (Some (slip before c f q))) (asked q) same
      (v.others 0 (λ z. omega (arith, z, member_numbered b.members q y g)) (λ z. omega (arith, z, member_numbered b.members c x e))) clients
      (from {x = client_with x (stack_of b.ledger c)} {y = client_with y (stack_of b.ledger q)} ne (client_is b c x e) (client_is b q y g) v.taken)
    where
      given : ℕ → Option rules.Client
      given = put before.clients q (Some (client_with y (stack_of k q)))

      off : (d : ℕ) → d ≢ c → clients_of b.members (stack_of k) d ≡ given d
      off = put_each before.clients q (Some (client_with y (stack_of k q))) (λ d z. d ≢ c → clients_of b.members (stack_of k) d ≡ z)
          (λ a. ap (λ (o : Option Member). client_of o (stack_of k q)) g) (λ d o a. same_client b.members (stack_of b.ledger) (stack_of k) d (λ pos. v.others d o a))

      clients : clients_of b.members (stack_of k) ≡ put given c (Some (client_with x (f ∷ stack_of b.ledger c)))
      clients = fun_ext (put_each given c _ (λ d z. clients_of b.members (stack_of k) d ≡ z) (taker x e v.given) off)

  -- a frame does not move onto the stack that it lies in
  moved_off : (q : ℕ) → Moved (stack_of b.ledger) (stack_of k) q c f → q ≢ c
  moved_off q v e =
      omega (arith, ap length v.taken, ap length v.given, ap (λ (d : ℕ). length (stack_of b.ledger d)) e, ap (λ (d : ℕ). length (stack_of k d)) e)

  pub grant_made : (q : ℕ) → Moved (stack_of b.ledger) (stack_of k) q c f → (before.clients c ≡ None → ⊥) → Grants before c q (Some (slip before c f q)) (after q)
  grant_made zero v there = let x = member_there (member_of b.members c) (stack_of b.ledger c) there in grant_of_free x.0 x.1 v
  grant_made (suc i) v there =
      let x = member_there (member_of b.members c) (stack_of b.ledger c) there in
      let y = some_there (member_of b.members (suc i)) (λ g. omega (arith, ap length (b.held (suc i) (λ z. omega arith) g), ap length v.taken)) in
      grant_of_client (suc i) x.0 y.0 x.1 y.1 (moved_off (suc i) v) v

-- where no frame lies, none is granted
module _ (b : Pool) (c : ℕ) (there : (view b).clients c ≡ None → ⊥) where
  few : c ≤ 256
  few = (there_numbered b c there).1

  pub grant_none : (q : ℕ) {w : rules.Broker} → w ≡ view b → (c ≤ 256 → q ≢ c → stack_of b.ledger q ≡ []) → Grants (view b) c q None w
  grant_none zero same empty = rw same (nothing (empty few))
  grant_none (suc i) same empty = rw same (nothing (λ ne. none_with (member_of b.members (suc i)) (stack_of b.ledger (suc i)) (empty few ne)))
