use Rattle.std.proofs.Common.{◌≡◌, ◌++◌, take}
use Rattle.std.specs.List.{flat_map}
use Rattle.text.specs.Texts.{spelt, kept}
use Rattle.events.specs.Grammar.{spaced}
use Rattle.events.proofs.event.spell.Given as goal

abbrev pub invariant-loop-n : goal.invariant-loop-n
invariant-loop-n l = spelt l.text ≡ kept (spelt l.initial.text ++ flat_map spaced (take l.n-index l.numbers))
