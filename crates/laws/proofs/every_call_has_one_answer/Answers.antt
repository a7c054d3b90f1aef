use Rattle.laws.proofs.every_call_has_one_answer.Goals as goal
use Rattle.laws.proofs.One.{one_answer}

pub returns : goal.returns
returns c = one_answer
