use Rattle.rules.proofs.laws.prices_are_lawful.Goals as goal
use Rattle.rules.proofs.PricesAreLawful.{prices_are_lawful}

pub returns : goal.returns
returns c = prices_are_lawful
