use Rattle.std.proofs.Common.{ap}
use Rattle.pool.specs.View.{view}
use Rattle.pool.proofs.Views.{seen}
use Rattle.pool.proofs.Grants.{grant_made, grant_none}
use Rattle.pool.proofs.pool.Pool.grant.Goals as goal

pub returns-in_err-frame : goal.returns-in_err-frame
returns-in_err-frame c =
    let b = c.args.self.now in
    let (same, empty) = c.in_err-frame.ensures.moved in
    rw c.from_residual.ensures (grant_none b c.args.client c.requires c.args.from (ap (seen (view b) b.members) same) empty)

pub returns : goal.returns
returns c =
    let l = c.move_top.new.self in
    grant_made c.args.self.now l c.args.client c.in_ok-frame.frame c.move_top.ensures.frames c.args.from c.in_ok-frame.ensures.moved c.requires
