-- A step carries every history on.
use Rattle.std.proofs.Common.{◌≡◌, List, ◌∷◌, Result}
use Rattle.rules.specs.Offers.{Lawful}
use Rattle.rules.specs.declared.refusal.Refusal.{Refusal}
use Rattle.laws.specs.Calls.{Call, Answer, Step}
use Rattle.laws.specs.Histories.{Event, event, then}
use Rattle.laws.proofs.Guaranteed.{histories_keep_guarantees}
use Rattle.price.specs.declared.price.Price.{Ghosts}
use Rattle.broker.specs.View.{Broker, meaning, view, Led, Stepped}

-- a step of the rules, under a price that stays, carries on every history
pub stepped : {P : Type 0} {g : Ghosts P} {before after : Broker P g} {x : Call} {a : Result Answer Refusal} → Lawful (meaning after) →
    Step (meaning before) (view before) x a (view after) → after.price ≡ before.price → Stepped before x a after
stepped {g = g} {before = before} {after = after} {x = x} {a = a} l s e =
    let onward : (h : List Event) → Led h before → Led (event x a (view after) ∷ h) after = λ h led. rw (meaning, e) (then led s) in
    record {
      step = s;
      price = e;
      history = onward;
      guarantees = λ h led. histories_keep_guarantees (meaning after) l (event x a (view after) ∷ h) (view after) (onward h led);
    }
