use Rattle.std.proofs.Common.{arith}
use Rattle.pool.proofs.Tables.{few_held}
use Rattle.broker.proofs.bids.Bids.renew.Goals as goal

pub bid-bid-requires : goal.bid-bid-requires
bid-bid-requires g c = (omega arith, omega (arith, few_held c.args.pool.now c.args.client, c.frames_of-holding.ensures))
