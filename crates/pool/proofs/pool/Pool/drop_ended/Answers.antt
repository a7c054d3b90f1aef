use Rattle.std.proofs.Common.{refl}
use Rattle.pool.proofs.Tables.{member_held}
use Rattle.pool.proofs.Drops.{drop_one}
use Rattle.pool.proofs.pool.Pool.drop_ended.Goals as goal

pub invariant_of-self : goal.invariant_of-self
invariant_of-self c = record { held = member_held c.args.self.now c.set.new.self c.in_ok-client.client _ c.set.ensures }

pub returns : goal.returns
returns c =
    drop_one c.args.tick c.args.self.now c.set.new.self c.in_ok-client.client c.in_ok-client.member _ c.set.ensures c.in_ok-client.ensures refl
