-- The worked examples, by computing.
use Rattle.std.proofs.Common.{◌+◌, [], ◌∷◌, length, codes, refl, arith}
use Rattle.std.proofs.lemmas.Fmt.{decimal_digit}
use Rattle.rules.specs.declared.refusal.FaultKind.TheVariants as fault
use Rattle.events.specs.declared.word.EventKind.TheVariants.{Ask}
use Rattle.events.specs.Grammar.{line_of}
use Rattle.events.specs.Faults
use Rattle.events.specs.Faults.{Begins, fault_at}
use Rattle.laws.proofs.Worked.{worked_examples}
use Rattle.session.specs.Examples.{HasFault, AllWorkedExamples}

-- a letter and no space
asks_nobody : HasFault (codes "Q") 2 2
asks_nobody =
    let begins : Begins (codes "Q") Ask [] [] = record { whole = refl; sized = tt; stops = tt } in
    (fault_at fault.Space 2, Faults.no_space begins (omega arith) (λ more e. cc), refl, refl)

-- a letter, its number and one space more
goes_on : HasFault (codes "Q 3 ") 4 4
goes_on =
    let three_is = decimal_digit 3 (omega arith) in
    let begins : Begins (codes "Q 3 ") Ask (3 ∷ []) (32 ∷ []) = record { whole = rw three_is; sized = omega arith; stops = refl } in
    (fault_at fault.Excess (length (line_of Ask (3 ∷ [])) + 1), Faults.no_end begins refl (λ e. cc), refl, rw three_is)

pub all_worked_examples : AllWorkedExamples
all_worked_examples = record { of_the_rules = worked_examples; no_space = asks_nobody; no_end = goes_on }
