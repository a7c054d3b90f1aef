use Rattle.laws.proofs.every_call_is_answered.Goals as goal
use Rattle.laws.proofs.Answered.{every_call_is_answered}

pub returns : goal.returns
returns c = every_call_is_answered
