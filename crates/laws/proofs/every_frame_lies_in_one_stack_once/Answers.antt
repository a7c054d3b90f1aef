use Rattle.laws.proofs.every_frame_lies_in_one_stack_once.Goals as goal
use Rattle.laws.proofs.Ledger.{frames_lie_once}

pub returns : goal.returns
returns c = frames_lie_once
