use Rattle.std.proofs.Common.{Some, sym, ap, ◌∙◌}
use Rattle.broker.specs.declared.slip.Slip.{Slip}
use Rattle.broker_tests.proofs.Delivery.{taken}
use Rattle.broker_tests.proofs.slips.deliver_elsewhere_first.Goals as goal

-- The slip that is handed back is the one of the ask.
pub unwrap-requires : goal.unwrap-requires
unwrap-requires g c =
    taken c.deliver-in-Err.result (c.in_ok-slip.ensures.opens.0 ∙ ap (λ (s : Slip). Some s.numbers) (sym (c.into_slip.ensures ∙ c.in-Err.ensures.slip)))
    c.deliver-in-Err.ensures.step.step
