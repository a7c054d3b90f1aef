use Rattle.std.proofs.Common.{refl, ◌∙◌, length-set, arith}
use Rattle.ledger.proofs.Fills.{all_free, together_free, once_free}
use Rattle.ledger.proofs.ledger.Ledger.start.Goals as goal

pub invariant_of-self-clause-owners : goal.invariant_of-self-clause-owners
invariant_of-self-clause-owners c = length-set c.args.self.now.stacks 0 _ ∙ c.args.self.now.owners

pub invariant_of-self-clause-all : goal.invariant_of-self-clause-all
invariant_of-self-clause-all c = together_free c.args.self.now c.link_down.new.below c.args.frames (omega arith) c.link_down.ensures

pub invariant_of-self-clause-once : goal.invariant_of-self-clause-once
invariant_of-self-clause-once c =
    once_free _ 256 c.args.frames (all_free c.args.self.now c.link_down.new.below c.args.frames (omega arith) c.link_down.ensures)

pub returns-clause-started : goal.returns-clause-started
returns-clause-started c =
    record {
      none_before = omega arith;
      frames = refl;
      all_free = all_free c.args.self.now c.link_down.new.below c.args.frames (omega arith) c.link_down.ensures;
    }
