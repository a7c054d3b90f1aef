use Rattle.laws.proofs.rest_is_reached.Goals as goal
use Rattle.laws.proofs.Reached.{rest_is_reached}

pub returns : goal.returns
returns c = rest_is_reached
