use Rattle.events.proofs.OneVerdict.{one_verdict}
use Rattle.events.proofs.FirstEighty.{first_80_decide}
use Rattle.events.proofs.event.read.Goals as goal

pub returns-clause-only : goal.returns-clause-only
returns-clause-only c = λ v h. one_verdict _ v _ h c.judge.ensures

pub returns-clause-decided : goal.returns-clause-decided
returns-clause-decided c = λ m same. first_80_decide _ m _ same c.judge.ensures
