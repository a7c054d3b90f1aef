use Rattle.std.proofs.Common.{◌≡◌}
use Rattle.laws.specs.ByNumber.{upto}
use Rattle.pool.specs.Records.{shares_in}
use Rattle.pool.specs.Members.{member_of}
use Rattle.pool.proofs.members.Members.shares.Given as goal

abbrev pub invariant-loop-member : goal.invariant-loop-member
invariant-loop-member l = l.shares ≡ upto l.member-index (λ c. shares_in (member_of l.self c))
