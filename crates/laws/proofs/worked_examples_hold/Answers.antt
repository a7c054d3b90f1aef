use Rattle.laws.proofs.worked_examples_hold.Goals as goal
use Rattle.laws.proofs.Worked.{worked_examples}

pub returns : goal.returns
returns c = worked_examples
