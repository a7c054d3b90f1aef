use Rattle.std.proofs.Common.{◌≡◌, [], take}
use Rattle.events.specs.Grammar.{EventKind}
use Rattle.events.specs.Reading.{IsBehind}
use Rattle.events.proofs.reader.Reader.numbers.Given as goal

abbrev pub invariant-loop-number : goal.invariant-loop-number
invariant-loop-number l =
    (l.self.line ≡ l.initial.self.line)
    × ((k : EventKind) → IsBehind l.initial.self.line.now k [] l.initial.self.at → IsBehind l.initial.self.line.now k (take l.number-index l.number-items) l.self.at)
