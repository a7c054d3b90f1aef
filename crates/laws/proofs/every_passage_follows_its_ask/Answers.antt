use Rattle.laws.proofs.every_passage_follows_its_ask.Goals as goal
use Rattle.laws.proofs.Passages.{passages_follow_asks}

pub returns : goal.returns
returns c = passages_follow_asks
