-- A call on one client leaves the others, and the bids stay right.
use Rattle.std.proofs.Common.{◌≡◌, ℕ, ◌≢◌, Some, None, Option, Ok, Err, Result, refl, ap, ◌∙◌, arith}
use Rattle.rules.specs.Offers.{Meaning}
use Rattle.rules.specs.declared.refusal.Refusal.{Refusal}
use Rattle.rules.specs.declared.refusal.Refusal.TheVariants.{AlreadyAdmitted}
use Rattle.rules.specs.declared.call.Admission.{Admission}
use Rattle.laws.specs.Broker as rules
use Rattle.laws.specs.Broker.{SlipNumbers}
use Rattle.laws.specs.Calls
use Rattle.laws.specs.Calls.{Step, Call, Start, Admit, Ask, Deliver, HandBack, Leave, SetEstimate, SetClock, Answer, Granted}
use Rattle.laws.proofs.Refused.{denied}
use Rattle.laws.proofs.Kept.{held_of}
use Rattle.laws.proofs.Puts.{each_but, put_at, put_off}
use Rattle.price.specs.declared.bid.ValidBid.{ValidBid}
use Rattle.price.specs.declared.price.Price.{Ghosts}
use Rattle.broker.specs.declared.bids.Bids.{Bids}
use Rattle.broker.specs.Bids.{bid_in, IsBid, AreBids, Renews}
use Rattle.broker.specs.View.{Broker, meaning, view}
use Rattle.broker.proofs.Lowest.{same_bid, renewed}

-- the call, so answered, leaves this client: a refused one leaves all, an accepted one all but the client that it is of and,
-- of an ask, the former owner; a clock may change any
abbrev pub Spares : Call → Result Answer Refusal → ℕ → Type 0
Spares (Start u F) a d = Unit {0}
Spares (Deliver s) a d = Unit {0}
Spares x (Err r) d = Unit {0}
Spares (Admit x) (Ok a) d = d ≢ x.client
Spares (Ask c) (Ok (Granted s)) d = (d ≢ c) × (d ≢ s.former)
Spares (Ask c) (Ok _) d = ⊥
Spares (HandBack c) (Ok a) d = d ≢ c
Spares (Leave c) (Ok a) d = d ≢ c
Spares (SetEstimate c e) (Ok a) d = d ≢ c
Spares (SetClock t) (Ok a) d = ⊥

step_others : {m : Meaning} {b : rules.Broker} {x : Call} {a : Result Answer Refusal} {w : rules.Broker} → Step m b x a w → (d : ℕ) → Spares x a d → w.clients d ≡ b.clients d
step_others (Calls.refused q) d o = refl
step_others (Calls.accepted s Calls.started) d o = refl
step_others (Calls.accepted s Calls.delivered) d o = refl
step_others (Calls.accepted s Calls.clocked) d o = absurd o
step_others (Calls.accepted s (Calls.granted_free g h)) d o = put_off _ _ _ d o.0
step_others (Calls.accepted s (Calls.granted_from g h k l n)) d o = put_off _ _ _ d o.0 ∙ put_off _ _ _ d o.1
step_others (Calls.accepted s e) d o = put_off _ _ _ d o

-- the bid of a client that a call spares stays right
pub spared : {P : Type 0} {g : Ghosts P} (b : Broker P g) {x : Call} {a : Result Answer Refusal} {w : rules.Broker} → Step (meaning b) (view b) x a w → (d : ℕ) → Spares x a d → IsBid (meaning b) w d (bid_in b.bids d)
spared b {w = w} s d o = same_bid (meaning b) (view b) w d (step_others s d o) (bid_in b.bids d) (b.kept d)

-- after an ask all are right, once those of the asker and then of the former owner are renewed
pub asked_bids : {P : Type 0} {g : Ghosts P} (b : Broker P g) {c : ℕ} {s : SlipNumbers} {w : rules.Broker} {p q : Bids} → Step (meaning b) (view b) (Ask c) (Ok (Granted s)) w →
    Renews (meaning b) w c b.bids p → Renews (meaning b) w s.former p q → AreBids (meaning b) w (bid_in q)
asked_bids b {c} {s} {w} {p} step r t =
    renewed t (each_but c (λ d. d ≢ s.former → IsBid (meaning b) w d (bid_in p d)) (λ n. r.anew) (λ d ne n. rw (r.others d ne) (spared b step d (ne, n))))

-- a client that is admitted holds nothing, and had no bid before
pub admitted_bids : {P : Type 0} {g : Ghosts P} (b : Broker P g) {x : Admission} {a : Result Answer Refusal} {w : rules.Broker} → Step (meaning b) (view b) (Admit x) a w → AreBids (meaning b) w (bid_in b.bids)
admitted_bids b (Calls.refused q) = b.kept
admitted_bids b {x} {a} {w} (Calls.accepted clear Calls.admitted) =
    each_but x.client (λ d. IsBid (meaning b) w d (bid_in b.bids d)) (fresh (bid_in b.bids x.client) (b.kept x.client)) (spared b (Calls.accepted clear Calls.admitted))
  where
    fresh : (o : Option ValidBid) → IsBid (meaning b) (view b) x.client o → IsBid (meaning b) w x.client o
    fresh None _ = rw put_at (omega arith)
    fresh (Some j) was = absurd (denied (meaning b) (view b) (Admit x) AlreadyAdmitted clear (λ none. omega (arith, was.0, ap held_of none)))
