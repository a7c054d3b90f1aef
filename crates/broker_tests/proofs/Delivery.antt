-- The slip of the open passage is not refused.
use Rattle.std.proofs.Common.{◌≡◌, Some, Ok, Err, Result, refl, inl, inr}
use Rattle.std.specs.Result.{IsOk}
use Rattle.rules.specs.Offers.{Meaning}
use Rattle.rules.specs.declared.refusal.Refusal.{Refusal}
use Rattle.laws.specs.Broker.{Broker, SlipNumbers}
use Rattle.laws.specs.Calls.{Deliver, Step, refused}
use Rattle.broker.specs.declared.slip.Undelivered.{Undelivered}
use Rattle.broker.specs.View.{delivered}

not_refused : {m : Meaning} {d : Broker} {s : SlipNumbers} {r : Refusal} {e : Broker} → d.passage ≡ Some s → Step m d (Deliver s) (Err r) e → ⊥
not_refused p (refused (inl (other, _))) = other p
not_refused p (refused (inr (_, none))) = none

pub taken : {m : Meaning} {d : Broker} {s : SlipNumbers} {e : Broker} (o : Result (Unit {0}) Undelivered) → d.passage ≡ Some s → Step m d (Deliver s) (delivered o) e → IsOk o
taken (Ok u) p step = refl
taken (Err u) p step = absurd (not_refused p step)
