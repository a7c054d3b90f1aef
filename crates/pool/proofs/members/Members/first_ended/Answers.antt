use Rattle.pool.proofs.Drops.{none_ended}
use Rattle.pool.proofs.members.Members.first_ended.Goals as goal

pub returns-then-end-tick : goal.returns-then-end-tick
returns-then-end-tick c = none_ended c.args.self.now c.args.tick c.in_ok-client.client c.in_ok-client.end.now c.in_ok-client.ensures.1 c.if-end-tick.true
