use Rattle.std.proofs.Common.{rules, arith}
use Rattle.ledger.specs.Links.{empty}
use Rattle.ledger.proofs.Downs.{length_stack}
use Rattle.ledger.proofs.ledger.Ledger.holding.Goals as goal

pub returns : goal.returns
returns c =
    let read = c.get.ensures.lookup.4 (omega arith) empty in
    let long = length_stack c.args.self.now.below c.args.self.now.stacks c.args.owner in search rules
