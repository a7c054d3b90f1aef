-- The worked examples, of the rules and of event lines.
--
-- HasFault            a line has its first fault of a kind, by its number, at a column
-- AllWorkedExamples   the examples, all together
use Rattle.std.specs.Prelude.{◌≡◌, ℕ, List, codes}
use Rattle.rules.specs.declared.refusal.Fault.{Fault}
use Rattle.rules.specs.Numbers.{kind_number}
use Rattle.events.specs.Faults.{FirstFault}
use Rattle.laws.specs.Cases.{WorkedExamples}

abbrev pub HasFault : List ℕ → ℕ → ℕ → Type 0
HasFault line kind column = (f : Fault) × FirstFault line f × (kind_number f.kind ≡ kind) × (f.column ≡ column)

pub record AllWorkedExamples : Type 0 where
  pub of_the_rules : WorkedExamples
  -- an ask without a client, and one that goes on after it
  pub no_space : HasFault (codes "Q") 2 2
  pub no_end : HasFault (codes "Q 3 ") 4 4
