-- The numbers that refusals and faults are known by.
--
-- kind_number   the number of a kind of fault, 1 to 4
-- Row           a refusal's number, whether it is met by the numbers of a line, a call or a question alone (a refusal
--               from the input) or by the broker they find (one from the state), and what it says besides
-- row           the row of each refusal: only a malformed line says more than its number, the kind and the column of its
--               fault
-- number        the number of a refusal: 1 to 9 from the input, 11 to 23 from the state
-- is_input      the refusal is one from the input
-- values        what it says besides its number
-- place         where it stands among the tests: those from the input by their numbers, and past them those from the
--               state by theirs
use Rattle.std.specs.Prelude.{ℕ, ◌+◌, Bool, true, false, cond, List, [], ◌∷◌}
pub use Rattle.rules.specs.declared.refusal.FaultKind.{FaultKind}
pub use Rattle.rules.specs.declared.refusal.FaultKind.TheVariants.{Letter, Space, Number, Excess}
pub use Rattle.rules.specs.declared.refusal.Fault.{Fault}
pub use Rattle.rules.specs.declared.refusal.Refusal.{Refusal}
pub use Rattle.rules.specs.declared.refusal.Refusal.TheVariants.{PoolOutOfRange, ClientOutOfRange, SharesOutOfRange, ClassOutOfRange, MaximumOutOfRange, RateOutOfRange, CountOutOfRange, BufferTooShort, Malformed, AlreadyStarted, PassageOpen, AlreadyAdmitted, NotAdmitted, MaximumAboveFrames, MinimumsAboveFrames, AtMaximum, Outbid, HoldsNoFrame, ActiveAboveFrames, EndNotAfterClock, TickBeforeClock, NotTheOpenSlip}

abbrev pub kind_number : FaultKind → ℕ
kind_number Letter = 1
kind_number Space = 2
kind_number Number = 3
kind_number Excess = 4

pub record Row : Type 0 where
  pub number : ℕ
  pub is_input : Bool
  pub values : List ℕ

abbrev pub from_input : ℕ → Row
from_input n = record { number = n; is_input = true; values = [] }

abbrev pub from_state : ℕ → Row
from_state n = record { number = n; is_input = false; values = [] }

abbrev pub row : Refusal → Row
row PoolOutOfRange = from_input 1
row ClientOutOfRange = from_input 2
row SharesOutOfRange = from_input 3
row ClassOutOfRange = from_input 4
row MaximumOutOfRange = from_input 5
row RateOutOfRange = from_input 6
row CountOutOfRange = from_input 7
row BufferTooShort = from_input 8
row (Malformed f) = record (from_input 9) { values = kind_number f.kind ∷ f.column ∷ [] }
row AlreadyStarted = from_state 11
row PassageOpen = from_state 12
row AlreadyAdmitted = from_state 13
row NotAdmitted = from_state 14
row MaximumAboveFrames = from_state 15
row MinimumsAboveFrames = from_state 16
row AtMaximum = from_state 17
row Outbid = from_state 18
row HoldsNoFrame = from_state 19
row ActiveAboveFrames = from_state 20
row EndNotAfterClock = from_state 21
row TickBeforeClock = from_state 22
row NotTheOpenSlip = from_state 23

abbrev pub number : Refusal → ℕ
number r = (row r).number

abbrev pub is_input : Refusal → Bool
is_input r = (row r).is_input

abbrev pub values : Refusal → List ℕ
values r = (row r).values

abbrev pub place : Refusal → ℕ
place r = cond (is_input r) (number r) (100 + number r)
