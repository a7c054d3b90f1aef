use Rattle.std.proofs.Common.{◌≡◌, [], append_assoc, refl, arith}
use Rattle.rules.specs.Numbers.{values}
use Rattle.rules.specs.declared.refusal.Fault.{Fault}
use Rattle.rules.specs.declared.refusal.Refusal.{Refusal}
use Rattle.rules.specs.declared.refusal.Refusal.TheVariants.{Malformed}
use Rattle.text.proofs.Kept.{kept_kept}
use Rattle.events.proofs.line_fault.LineFaultLine.add_to.Goals as goal

-- only a malformed line has values
no_values : (r : Refusal) → ((f : Fault) → r ≡ Malformed f → ⊥) → values r ≡ []
no_values (Malformed f) not = absurd (not f refl)
no_values r not = refl

pub returns-in_default-clause-text : goal.returns-in_default-clause-text
returns-in_default-clause-text c = rw (no_values _ c.in_default.not-Malformed) (grind (arith, kept_kept, append_assoc))
