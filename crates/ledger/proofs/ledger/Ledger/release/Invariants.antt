use Rattle.std.proofs.Common.{◌≡◌, ◌≢◌, length}
use Rattle.ledger.specs.Ledgers.{stack_of}
use Rattle.ledger.proofs.Frees.{Going}
use Rattle.ledger.proofs.ledger.Ledger.release.Given as goal

abbrev pub invariant-loop-released : goal.invariant-loop-released
invariant-loop-released l =
    (l.self.frames ≡ l.initial.self.frames)
    × (l.owner ≡ 0 → (l.released ≡ 0) × (l.self ≡ l.initial.self))
    × (l.owner ≢ 0 → Going (stack_of l.initial.self) (stack_of l.self) l.owner l.released)

abbrev pub decreases-loop-released : goal.decreases-loop-released
decreases-loop-released l = length (stack_of l.self l.owner)
