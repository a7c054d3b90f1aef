-- What the reader promises of each word.
--
-- text_of, column_of, due_of   a word's part of the line, its column, and what was due where it stands
-- missing_kind                 the kind of fault where a word of that kind is missing
-- CountsDigits                 so many digits stand at the front of a text, and no digit follows them
-- FindsWord                    the word that was due stands at the cursor, which moves past it
-- MissesWord                   it does not, and the cursor stays
-- ReadsWord                    the word is found, or is missed with this fault
-- IsWordAt                     the word that is due stands at a place, or none does
-- FindsNumber                  a space and a number stand at the cursor, which moves past them
-- MissesNumber                 they do not, and this is the fault
-- ReadsNumber                  they are found, or missed with this fault
-- IsBehind                     the cursor stands right behind a letter and some numbers, rightly written
-- ReadsForm                    the cursor moves past the line's letter, or the line has a first fault
-- ReadsNumbers                 it moves past all its numbers, the first of five places, or the line has a first fault
-- ReadsEnd                     the line ends at the cursor, or goes on there, which is the fault
use Rattle.std.specs.Prelude.{◌≡◌, ℕ, ◌+◌, ◌^◌, ◌<◌, ◌≤◌, List, [], ◌∷◌, ◌++◌, length, take, drop, Some, None, Ok, Err, Option, Result, ◌≢◌}
use Rattle.std.specs.Str.Parse.{AllDigits}
use Rattle.rules.specs.declared.refusal.Fault.{Fault}
use Rattle.rules.specs.declared.refusal.FaultKind.{FaultKind}
use Rattle.rules.specs.declared.refusal.FaultKind.TheVariants as fault
use Rattle.events.specs.declared.word.Due.{Due}
use Rattle.events.specs.declared.word.Due.TheVariants as due
use Rattle.events.specs.declared.word.Word.{Word}
use Rattle.events.specs.declared.word.Word.TheVariants as word
use Rattle.events.specs.Grammar.{EventKind, Form, NoDigit, number_count, spaced, line_of, Says, IsMissing}
use Rattle.events.specs.Faults.{Begins, FirstFault, fault_at}

abbrev pub text_of : Word → List ℕ
text_of (word.Letter text column form) = text.now
text_of (word.Number text column value) = text.now
text_of (word.Separator text column) = text.now

abbrev pub column_of : Word → ℕ
column_of (word.Letter text column form) = column
column_of (word.Number text column value) = column
column_of (word.Separator text column) = column

abbrev pub due_of : Word → Due
due_of (word.Letter text column form) = due.Letter
due_of (word.Number text column value) = due.Number
due_of (word.Separator text column) = due.Separator

abbrev pub missing_kind : Due → FaultKind
missing_kind due.Letter = fault.Letter
missing_kind due.Separator = fault.Space
missing_kind due.Number = fault.Number

pub record CountsDigits (bs : List ℕ) (n : ℕ) : Type 0 where
  pub within : n ≤ length bs
  pub all : AllDigits 10 (take n bs)
  pub stops : NoDigit (drop n bs)

pub record FindsWord (d : Due) (line : List ℕ) (at : ℕ) (w : Word) (next : ℕ) : Type 0 where
  pub wanted : due_of w ≡ d
  pub place : column_of w ≡ at + 1
  pub here : drop at line ≡ text_of w ++ drop next line
  pub behind : next ≡ at + length (text_of w)
  pub says : Says w (drop next line)

pub record MissesWord (d : Due) (line : List ℕ) (at : ℕ) (f : Fault) (next : ℕ) : Type 0 where
  pub fault : f ≡ fault_at (missing_kind d) (at + 1)
  pub missing : IsMissing d (drop at line)
  pub stays : next ≡ at

abbrev pub ReadsWord : Due → List ℕ → ℕ → Result Word Fault → ℕ → Type 0
ReadsWord d line at (Ok w) next = FindsWord d line at w next
ReadsWord d line at (Err f) next = MissesWord d line at f next

abbrev pub IsWordAt : Due → List ℕ → ℕ → Option Word → Type 0
IsWordAt d line at None = IsMissing d (drop at line)
IsWordAt d line at (Some w) = FindsWord d line at w (at + length (text_of w))

pub record FindsNumber (line : List ℕ) (at n next : ℕ) : Type 0 where
  pub here : drop at line ≡ spaced n ++ drop next line
  pub behind : next ≡ at + length (spaced n)
  pub sized : n < 2 ^ 32
  pub stops : NoDigit (drop next line)

pub data MissesNumber (line : List ℕ) (at : ℕ) : Fault → Type 0 where
  no_space : IsMissing due.Separator (drop at line) → MissesNumber line at (fault_at fault.Space (at + 1))
  no_number : {rest : List ℕ} → drop at line ≡ 32 ∷ rest → IsMissing due.Number rest →
      MissesNumber line at (fault_at fault.Number (at + 2))

abbrev pub ReadsNumber : List ℕ → ℕ → Result ℕ Fault → ℕ → Type 0
ReadsNumber line at (Ok n) next = FindsNumber line at n next
ReadsNumber line at (Err f) next = MissesNumber line at f

pub record IsBehind (line : List ℕ) (k : EventKind) (ns : List ℕ) (at : ℕ) : Type 0 where
  pub begins : Begins line k ns (drop at line)
  pub place : at ≡ length (line_of k ns)

abbrev pub ReadsForm : List ℕ → Result Form Fault → ℕ → Type 0
ReadsForm line (Ok form) next = IsBehind line form.kind [] next × (form.count ≡ number_count form.kind)
ReadsForm line (Err f) next = FirstFault line f

abbrev pub ReadsNumbers : List ℕ → EventKind → Result (List ℕ) Fault → ℕ → Type 0
ReadsNumbers line k (Ok ns) next = IsBehind line k (take (number_count k) ns) next × (length ns ≡ 5)
ReadsNumbers line k (Err f) next = FirstFault line f

abbrev pub ReadsEnd : List ℕ → ℕ → Result Unit Fault → Type 0
ReadsEnd line at (Ok done) = drop at line ≡ []
ReadsEnd line at (Err f) = (f ≡ fault_at fault.Excess (at + 1)) × (drop at line ≢ [])
