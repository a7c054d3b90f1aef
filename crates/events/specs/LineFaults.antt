-- What is printed of a refused line.
--
-- reason       why it was refused, from the refusal's values and its number
-- fault_line   the whole line that is printed
-- at_line      what came of a line, where a refusal has the line's number
use Rattle.std.specs.Prelude.{ℕ, List, [], ◌∷◌, ◌++◌, Ok, Err, Result, codes, decimal}
use Rattle.rules.specs.declared.refusal.Refusal.{Refusal}
use Rattle.rules.specs.Numbers.{number, values}
pub use Rattle.events.specs.declared.line_fault.LineFault.{LineFault}

-- A malformed line has the kind and the column of its fault for values; any other refusal has none.
abbrev pub reason : List ℕ → ℕ → List ℕ
reason [] n = codes " refused " ++ decimal n
reason (k ∷ []) n = codes " refused " ++ decimal n
reason (k ∷ c ∷ more) n = codes " text " ++ (decimal k ++ (codes " at " ++ decimal c))

abbrev pub fault_line : LineFault → List ℕ
fault_line f = codes "line " ++ (decimal f.line ++ reason (values f.refusal) (number f.refusal))

abbrev pub at_line : {T : Type 0} → ℕ → Result T Refusal → Result T LineFault
at_line n (Ok value) = Ok value
at_line n (Err r) = Err (record { line = n; refusal = r })
