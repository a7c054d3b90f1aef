use Rattle.std.proofs.Common.{ap, arith}
use Rattle.heap.specs.Indexed.{keys_in}
use Rattle.pool.specs.Records.{minimum_in}
use Rattle.pool.proofs.Records.{minimum_among, few_minimum, few_minimums, set_put, set_sum, set_end}
use Rattle.pool.proofs.members.Members.set.Goals as goal

pub overflow_sub-self : goal.overflow_sub-self
overflow_sub-self c = omega (arith, ap minimum_in c.get-before.ensures, minimum_among c.args.self.now c.args.client c.requires)

pub overflow_add-self : goal.overflow_add-self
overflow_add-self c = record { fits = omega (arith, few_minimums c.args.self.now, few_minimum c.args.member) }

pub invariant_of-self-clause-summed : goal.invariant_of-self-clause-summed
invariant_of-self-clause-summed c =
    omega (arith, ap minimum_in c.get-before.ensures, set_sum c.args.self.now c.args.client c.requires c.args.member)

pub invariant_of-self-clause-ends_kept : goal.invariant_of-self-clause-ends_kept
invariant_of-self-clause-ends_kept c =
    set_end c.args.self.now c.args.client c.requires c.args.member c.end.result (keys_in c.set_end.new.ends) c.end.ensures c.set_end.ensures

pub returns : goal.returns
returns c = set_put c.args.self.now c.args.client c.requires c.args.member
