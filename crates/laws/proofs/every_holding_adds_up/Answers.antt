use Rattle.laws.proofs.every_holding_adds_up.Goals as goal
use Rattle.laws.proofs.Holdings.{holdings_add_up}

pub returns : goal.returns
returns c = holdings_add_up
