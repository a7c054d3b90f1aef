use Rattle.laws.proofs.every_broker_stays_in_range.Goals as goal
use Rattle.laws.proofs.Ranges.{brokers_stay_in_range}

pub returns : goal.returns
returns c = brokers_stay_in_range
