use Rattle.laws.proofs.every_ask_is_counted.Goals as goal
use Rattle.laws.proofs.Counted.{asks_are_counted}

pub returns : goal.returns
returns c = asks_are_counted
