-- The words of event lines: letters, numbers and the spaces between them.
--
-- spaced      a number as it stands on a line: after one space, in decimal
-- line_of     the line of a letter and some numbers, each after one space
-- NoDigit     no digit comes next
-- Says        what a word says of its part of the line, before the bytes that follow it
-- IsMissing   no word of the kind that is due stands at the front
use Rattle.std.specs.Prelude.{◌≡◌, ℕ, ◌^◌, ◌<◌, false, List, [], ◌∷◌, ◌++◌, decimal, ◌≢◌}
use Rattle.std.specs.List.{flat_map}
use Rattle.std.specs.Char.{is_ascii_digit}
use Rattle.events.specs.declared.word.Due.{Due}
use Rattle.events.specs.declared.word.Due.TheVariants as due
pub use Rattle.events.specs.EventKinds.{EventKind, Start, Admit, Ask, HandBack, Leave, Estimate, Clock, letter, number_count}
pub use Rattle.events.specs.declared.word.Form.{Form}
use Rattle.events.specs.declared.word.Word.{Word}
use Rattle.events.specs.declared.word.Word.TheVariants as word

abbrev pub spaced : ℕ → List ℕ
spaced n = 32 ∷ decimal n

abbrev pub line_of : EventKind → List ℕ → List ℕ
line_of k ns = letter k ∷ flat_map spaced ns

abbrev pub NoDigit : List ℕ → Type 0
NoDigit [] = Unit {0}
NoDigit (b ∷ bs) = is_ascii_digit b ≡ false

-- A letter is that of its kind, with as many numbers to come as its kind has; a separator is one space; and a number is its
-- value in decimal, all of its digits.
abbrev pub Says : Word → List ℕ → Type 0
Says (word.Letter text column form) more = (text.now ≡ letter form.kind ∷ []) × (form.count ≡ number_count form.kind)
Says (word.Number text column value) more = (value < 2 ^ 32) × (text.now ≡ decimal value) × NoDigit more
Says (word.Separator text column) more = text.now ≡ 32 ∷ []

-- So a number is missing where no digit is there, and where the digits there have a leading zero or say too much.
abbrev pub IsMissing : Due → List ℕ → Type 0
IsMissing due.Letter bs = (k : EventKind) (more : List ℕ) → bs ≢ letter k ∷ more
IsMissing due.Separator bs = (more : List ℕ) → bs ≢ 32 ∷ more
IsMissing due.Number bs = (n : ℕ) (more : List ℕ) → n < 2 ^ 32 → bs ≡ decimal n ++ more → NoDigit more → ⊥
