use Rattle.laws.proofs.settled_division_is_unique.Goals as goal
use Rattle.laws.proofs.Unique.{division_is_unique}

pub returns : goal.returns
returns c = division_is_unique
