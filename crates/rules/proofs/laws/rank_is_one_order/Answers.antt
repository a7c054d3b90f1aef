use Rattle.rules.proofs.laws.rank_is_one_order.Goals as goal
use Rattle.rules.proofs.RankIsOneOrder.{rank_is_one_order}

pub returns : goal.returns
returns c = rank_is_one_order
