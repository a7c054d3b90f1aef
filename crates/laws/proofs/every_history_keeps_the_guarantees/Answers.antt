use Rattle.laws.proofs.every_history_keeps_the_guarantees.Goals as goal
use Rattle.laws.proofs.Guaranteed.{histories_keep_guarantees}

pub returns : goal.returns
returns c = histories_keep_guarantees
