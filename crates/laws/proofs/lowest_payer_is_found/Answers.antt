use Rattle.laws.proofs.lowest_payer_is_found.Goals as goal
use Rattle.laws.proofs.Answered.{lowest_payer_is_found}

pub returns : goal.returns
returns c = lowest_payer_is_found
