use Rattle.broker_tests.proofs.Delivery.{taken}
use Rattle.broker_tests.proofs.slips.ask_and_deliver.Goals as goal

pub unwrap-requires : goal.unwrap-requires
unwrap-requires g c = taken c.deliver.result c.in_ok-slip.ensures.opens.0 c.deliver.ensures.step.step
