-- Views with other parts, and a call that leaves the view as it was may be a refused one.
use Rattle.std.proofs.Common.{◌≡◌, ℕ, zero, suc, ◌≢◌, List, Ok, Err, IsErrAnd, Option, Result, refl, ap, arith}
use Rattle.rules.specs.Offers.{Meaning}
use Rattle.rules.specs.declared.refusal.Refusal.{Refusal}
use Rattle.laws.specs.Broker as rules
use Rattle.laws.specs.Calls.{Call, Answer, Step, refused, RefusedBy, answered}
use Rattle.ledger.specs.declared.ledger.Ledger.{Ledger}
use Rattle.ledger.specs.Ledgers.{stack_of}
use Rattle.pool.specs.Members.{Members, member_of}
use Rattle.pool.specs.View.{Pool, view, client_of}

-- the clients that a table and stacks make
abbrev pub clients_of : Members → (ℕ → List ℕ) → ℕ → Option rules.Client
clients_of t s c = client_of (member_of t c) (s c)

-- a broker with the frames and the clients of a table and a ledger
abbrev pub seen : rules.Broker → Members → Ledger → rules.Broker
seen v t l = record v { frames = l.frames; free = stack_of l 0; clients = clients_of t (stack_of l) }

-- a pool with another table and another ledger
abbrev pub seen_with : Pool → Members → Ledger → rules.Broker
seen_with b t l = seen (view b) t l

-- what holds of a broker holds of one with equal frames and clients
pub from_parts : (P : rules.Broker → Type 0) (v : rules.Broker) {F G : ℕ} {fs gs : List ℕ} {cs ds : ℕ → Option rules.Client} → F ≡ G → fs ≡ gs → cs ≡ ds →
    P (record v { frames = G; free = gs; clients = ds }) → P (record v { frames = F; free = fs; clients = cs })
from_parts P v e f g h = rw (e, f, g) h

-- a refused call that leaves the broker as it was
pub refused_same : {m : Meaning} {b d : rules.Broker} {x : Call} {e : Refusal} → d ≡ b → RefusedBy m b x e → Step m b x (Err e) d
refused_same same f = rw same (refused f)

-- the exit of a call whose answer hands a refusal on
pub refused_exit : {A : Type 0} {m : Meaning} {b d : rules.Broker} {x : Call} (word : A → Answer) (e : Refusal) (r : Result A Refusal) →
    IsErrAnd r (λ y. y ≡ e) → d ≡ b → RefusedBy m b x e → Step m b x (answered word r) d
refused_exit word e (Ok a) h same f = absurd h
refused_exit word e (Err y) h same f = rw (h, same) (refused f)

-- a client is as it was where its stack is; number 0 is no client's
pub same_client : (t : Members) (s u : ℕ → List ℕ) (c : ℕ) → (c ≢ 0 → u c ≡ s c) → clients_of t u c ≡ clients_of t s c
same_client t s u zero e = refl
same_client t s u (suc i) e = ap (client_of (member_of t (suc i))) (e (λ z. omega arith))
