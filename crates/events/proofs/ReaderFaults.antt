-- From the words of a line to its letter and its numbers.
use Rattle.std.proofs.Common.{◌≡◌, ℕ, ◌+◌, ◌<◌, ◌≤◌, List, [], ◌∷◌, length, drop, ap, ◌∙◌, arith}
use Rattle.rules.specs.declared.refusal.Fault.{Fault}
use Rattle.rules.specs.declared.refusal.FaultKind.TheVariants as fault
use Rattle.events.specs.declared.word.Due.TheVariants as due
use Rattle.events.specs.declared.word.Word.{Word}
use Rattle.events.specs.declared.word.Word.TheVariants as word
use Rattle.events.specs.Faults.{Begins, LastStops, FirstFault, fault_at}
use Rattle.events.specs.Faults as faults
use Rattle.events.specs.Grammar.{EventKind, Start, number_count}
use Rattle.events.specs.Reading.{IsBehind, FindsWord, MissesWord, MissesNumber, no_space, no_number, text_of}

-- a separator that was found is one space
space_part : (l : List ℕ) (at : ℕ) (w : Word) (next : ℕ) → FindsWord due.Separator l at w next → text_of w ≡ 32 ∷ []
space_part l at (word.Separator text column) next found = found.says
space_part l at w next found = let wanted = found.wanted in cc

pub number_missed : (l m : List ℕ) (at : ℕ) (w : Word) (mid : ℕ) (f : Fault) (next : ℕ) → m ≡ l → FindsWord due.Separator l at w mid → MissesWord due.Number m mid f next → MissesNumber l at f
number_missed l m at w mid f next same found missed =
    let one = space_part l at w mid found in
    let two : mid + 1 ≡ at + 2 = omega (arith, found.behind, ap length one) in
    rw (missed.fault, two) (no_number (rw one at found.here) (rw same at missed.missing))

pub count_few : (k : EventKind) → number_count k ≤ 5
count_few Start = omega arith
count_few k = omega arith

pub number_fault : (l m : List ℕ) (k : EventKind) (ns : List ℕ) (at : ℕ) (f : Fault) → m ≡ l → IsBehind l k ns at → length ns < number_count k → MissesNumber m at f → FirstFault l f
number_fault l m k ns at f same b few missed = go f (rw same at missed)
  where
    go : (f : Fault) → MissesNumber l at f → FirstFault l f
    go f (no_space missing) = rw b.place (faults.no_space b.begins few missing)
    go f (no_number {rest} here missing) = rw b.place (faults.no_number (rw here at b.begins) few missing)

pub end_fault : (l m o : List ℕ) (k : EventKind) (ns : List ℕ) (at : ℕ) (f : Fault) → m ≡ l → o ≡ m → IsBehind m k ns at → length ns ≡ number_count k → f ≡ fault_at fault.Excess (at + 1) → (drop at o ≡ [] → ⊥) → FirstFault l f
end_fault l m o k ns at f same too b all is more =
    let there = rw same at b in
    rw (is, b.place) (faults.no_end there.begins all (λ none. more (ap (drop at) (too ∙ same) ∙ none)))
