-- How an input is cut into lines.
--
-- NoNewline   no byte of a text is 10
-- CutsOff     some lines stand one after the other at the front of an input, and this is left of it
-- IsCutInto   an input consists of these lines
-- GivesLine   the next line that an input gives, or none: the first 80 bytes of it, and what is left of the input
use Rattle.std.specs.Prelude.{◌≡◌, ℕ, List, [], ◌∷◌, ◌++◌, take, Some, None, Option, ◌≢◌}
use Rattle.std.specs.List.{AllByRecursion}

abbrev pub NoNewline : List ℕ → Type 0
NoNewline text = AllByRecursion (λ b. b ≢ 10) text

pub data CutsOff (left : List ℕ) : List ℕ → List (List ℕ) → Type 0 where
  -- no line was cut off yet
  none : {input : List ℕ} → input ≡ left → CutsOff left input []
  -- a line ends at its newline, which is no part of it
  at_newline : {input line behind : List ℕ} {lines : List (List ℕ)} →
      input ≡ line ++ 10 ∷ behind → NoNewline line → CutsOff left behind lines → CutsOff left input (line ∷ lines)
  -- text after the last newline is a line unless it is empty
  at_end : {input : List ℕ} → (input ≢ []) → NoNewline input → left ≡ [] → CutsOff left input (input ∷ [])

abbrev pub IsCutInto : List ℕ → List (List ℕ) → Type 0
IsCutInto input lines = CutsOff [] input lines

abbrev pub GivesLine : List ℕ → Option (List ℕ) → List ℕ → Type 0
GivesLine input None left = (input ≡ []) × (left ≡ [])
GivesLine input (Some text) left = (line : List ℕ) × (text ≡ take 80 line) × CutsOff left input (line ∷ [])
