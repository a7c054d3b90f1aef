-- Stacks by links between frames.
--
-- down       so many frames from one down, each followed by the one that its link names
-- empty      where a stack without frames begins
-- stack      an owner's stack, by the links and by where the stacks begin; an owner without a place has none
-- together   how many frames the stacks have together
use Rattle.std.specs.Prelude.{ℕ, zero, suc, List, [], ◌∷◌, slice_index, slice_index_or}
use Rattle.std.specs.List.{sum_by}
use Rattle.ledger.specs.declared.ledger.Stack.{Stack}

abbrev pub down : List ℕ → ℕ → ℕ → List ℕ
down below f zero = []
down below f (suc n) = f ∷ down below (slice_index below f) n

abbrev pub empty : Stack
empty = record { top = 0; len = 0 }

unfoldable pub stack : List ℕ → List Stack → ℕ → List ℕ
stack below begun o = let s = slice_index_or begun o empty in down below s.top s.len

abbrev pub together : List Stack → ℕ
together begun = sum_by (λ s. s.len) begun
