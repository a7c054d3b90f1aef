use Rattle.std.proofs.Common.{ap, arith}
use Rattle.pool.specs.Records.{shares_in}
use Rattle.pool.proofs.Records.{member_numbered, shares_among}
use Rattle.pool.proofs.pool.Pool.proportional_share.Goals as goal

pub nonzero_div-result : goal.nonzero_div-result
nonzero_div-result c =
    let t = c.args.self.now.members in
    let x = c.in_ok-member.member in
    let it = c.in_ok-member.ensures.1 in
    omega (arith, x.some_shares, ap shares_in it, shares_among t c.args.client (member_numbered t c.args.client x it), c.shares-all.ensures)
