use Rattle.std.proofs.Common.{replicate}
use Rattle.ledger.specs.Links.{empty, stack}
use Rattle.ledger.proofs.Fills.{once_free, blank_none}
use Rattle.ledger.proofs.ledger.Ledger.new.Goals as goal

pub invariant_of-result-clause-once : goal.invariant_of-result-clause-once
invariant_of-result-clause-once c =
    let none = blank_none (replicate 4097 0) 257 in once_free (stack (replicate 4097 0) (replicate 257 empty)) 256 0 (record { free = none 0; others = λ o _. none o })

pub returns-clause-stacks : goal.returns-clause-stacks
returns-clause-stacks c = blank_none (replicate 4097 0) 257
