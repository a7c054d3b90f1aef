-- The table of clients and their stacks, with one client changed.
use Rattle.std.proofs.Common.{◌≡◌, ℕ, ◌≤◌, ◌≢◌, List, [], length, Some, None, Ok, Option, sym, refl, ap, ◌∙◌, inl, inr, arith}
use mathlib.Core.Path.{fun_ext}
use Rattle.std.proofs.lemmas.Bool.{cases_lt}
use Rattle.rules.specs.Offers.{Meaning}
use Rattle.rules.specs.declared.refusal.Refusal.TheVariants.{ClientOutOfRange, AlreadyAdmitted}
use Rattle.laws.specs.ByNumber.{total, Numbered, put}
use Rattle.laws.specs.Broker as rules
use Rattle.laws.specs.Broker.{holding, present}
use Rattle.laws.specs.Division.{terms, minimum_of}
use Rattle.laws.specs.Calls.{Admission, Admit, Done, Step, accepted, admitted, newcomer, IsClear}
use Rattle.laws.proofs.Refused.{denied}
use Rattle.laws.proofs.Kept.{none_some, none_there, inside}
use Rattle.laws.proofs.Puts.{each_but, put_at, put_off, put_each}
use Rattle.laws.proofs.Sums.{upto_same}
use Rattle.ledger.specs.declared.ledger.Ledger.{Ledger}
use Rattle.ledger.specs.Ledgers.{stack_of}
use Rattle.ledger.proofs.Ledgers.{few_frames, holding_few, no_owner}
use Rattle.pool.specs.Records.{Member, minimum_in}
use Rattle.pool.specs.Members.{Members, member_of, IsSetAt, OnlyMembersHold}
use Rattle.pool.specs.View.{Pool, view, client_with, client_of}
use Rattle.pool.proofs.Records.{member_numbered}
use Rattle.pool.proofs.Views.{clients_of, seen_with, from_parts, same_client}

pub client_is : (b : Pool) (c : ℕ) (x : Member) → member_of b.members c ≡ Some x → (view b).clients c ≡ Some (client_with x (stack_of b.ledger c))
client_is b c x e = ap (λ (o : Option Member). client_of o (stack_of b.ledger c)) e

-- a client that is there is a member, and has a client number
pub member_there : (o : Option Member) (fs : List ℕ) → (client_of o fs ≡ None → ⊥) → (x : Member) × (o ≡ Some x)
member_there (Some x) fs h = (x, refl)
member_there None fs h = absurd (h refl)

pub there_numbered : (b : Pool) (c : ℕ) → ((view b).clients c ≡ None → ⊥) → Numbered c
there_numbered b c there = let x = member_there (member_of b.members c) (stack_of b.ledger c) there in member_numbered b.members c x.0 x.1

-- where only the record of one client and its stack change, only that client changes; the free stack is no client's
pub changed_clients : (b : Pool) (t : Members) (s : ℕ → List ℕ) (c : ℕ) (y : Option rules.Client) → clients_of t s c ≡ y →
    ((d : ℕ) → d ≢ c → member_of t d ≡ member_of b.members d) → ((d : ℕ) → d ≢ 0 → d ≢ c → s d ≡ stack_of b.ledger d) → clients_of t s ≡ put (view b).clients c y
changed_clients b t s c y here table stacks =
    fun_ext (put_each (view b).clients c y (λ d z. clients_of t s d ≡ z) here
    (λ d ne. ap (λ (o : Option Member). client_of o (s d)) (table d ne) ∙ same_client b.members (stack_of b.ledger) s d (λ pos. stacks d pos ne)))

-- changed in the table, changed among the clients
pub set_clients : (b : Pool) (t : Members) (s : ℕ → List ℕ) (c : ℕ) (v : Option Member) (y : Option rules.Client) → IsSetAt b.members c v t → client_of v (s c) ≡ y →
    ((d : ℕ) → d ≢ 0 → d ≢ c → s d ≡ stack_of b.ledger d) → clients_of t s ≡ put (view b).clients c y
set_clients b t s c v y set is stacks =
    changed_clients b t s c y (ap (λ (o : Option Member). client_of o (s c)) (set c ∙ put_at (member_of b.members) c v) ∙ is)
    (λ d ne. set d ∙ put_off (member_of b.members) c v d ne) stacks

-- who is not a member holds nothing still, where one record was set
pub set_held : (b : Pool) (t : Members) (l : Ledger) (c : ℕ) (v : Option Member) → IsSetAt b.members c v t → (v ≡ None → stack_of l c ≡ []) →
    ((d : ℕ) → d ≢ 0 → d ≢ c → stack_of l d ≡ stack_of b.ledger d) → OnlyMembersHold t l
set_held b t l c v set here stacks =
    each_but c (λ d. d ≢ 0 → member_of t d ≡ None → stack_of l d ≡ [])
    (λ pos none. here (sym (put_at (member_of b.members) c v) ∙ (sym (set c) ∙ none)))
    (λ d ne pos none. stacks d pos ne ∙ b.held d pos (sym (put_off (member_of b.members) c v d ne) ∙ (sym (set d) ∙ none)))

-- a client's record is set: it may hold what it holds
pub member_held : (b : Pool) (t : Members) (c : ℕ) (x : Member) → IsSetAt b.members c (Some x) t → OnlyMembersHold t b.ledger
member_held b t c x set = set_held b t b.ledger c (Some x) set (λ e. absurd (none_some e refl)) (λ d pos ne. refl)

no_member : (o : Option Member) (fs : List ℕ) → client_of o fs ≡ None → o ≡ None
no_member None fs e = refl
no_member (Some x) fs e = absurd (none_some e refl)

-- no client holds more frames than a pool can have
pub few_held : (b : Pool) (c : ℕ) → holding (view b) c ≤ 4_096
few_held b c = each (member_of b.members c)
  where
    each : (o : Option Member) → length (rules.stack_of (client_of o (stack_of b.ledger c))) ≤ 4_096
    each (Some x) =
        elim (cases_lt c 257) [
          | inl h ↦ omega (arith, few_frames b.ledger, holding_few b.ledger c h)
          | inr h ↦ omega (arith, ap length (no_owner b.ledger c h))
        ]
    each None = omega arith

-- the minimums that are kept added up are those of the clients
pub minimums_are : (b : Pool) → total (minimum_of (present (view b))) ≡ b.members.minimums
minimums_are b = upto_same 256 (minimum_of (present (view b))) (λ c. minimum_in (member_of b.members c)) (λ c i. each (member_of b.members c) (stack_of b.ledger c)) ∙ sym b.members.summed
  where
    each : (o : Option Member) (fs : List ℕ) → (terms (rules.terms_of (client_of o fs))).minimum ≡ minimum_in o
    each (Some x) fs = refl
    each None fs = refl

-- the record of a new client makes it the newcomer that the rules speak of
pub admit_step : (m : Meaning) (b : Pool) (a : Admission) (t : Members) (x : Member) → IsSetAt b.members a.client (Some x) t →
    ◌≡◌ {A = Option rules.Client} (client_of (Some x) []) (Some (newcomer a)) →
    IsClear m (view b) (Admit a) → Step m (view b) (Admit a) (Ok Done) (seen_with b t b.ledger)
admit_step m b a t x set new clear =
    let c = a.client in
    let i = inside 1 256 c (denied m (view b) (Admit a) ClientOutOfRange clear) in
    let none = none_there ((view b).clients c) (denied m (view b) (Admit a) AlreadyAdmitted clear) in
    let empty = b.held c (λ z. omega arith) (no_member (member_of b.members c) (stack_of b.ledger c) none) in
    let after = set_clients b t (stack_of b.ledger) c (Some x) (Some (newcomer a)) set (ap (client_of (Some x)) empty ∙ new) (λ d pos ne. refl) in
    from_parts (Step m (view b) (Admit a) (Ok Done)) (view b) refl refl after (accepted clear admitted)
