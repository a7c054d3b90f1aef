-- The line of an event.
--
-- event_kind      the kind of an event
-- event_numbers   its numbers, in the order of its line
-- event_line      its line
-- IsSized         each of its numbers has at most 32 bits
use Rattle.std.specs.Prelude.{ℕ, ◌^◌, ◌<◌, List, [], ◌∷◌}
use Rattle.std.specs.List.{AllByRecursion}
use Rattle.events.specs.Grammar.{EventKind, line_of}
use Rattle.events.specs.EventKinds as kind
pub use Rattle.events.specs.declared.event.Event.{Event}
pub use Rattle.events.specs.declared.event.Event.TheVariants.{Start, Admit, Ask, HandBack, Leave, Estimate, Clock}

abbrev pub event_kind : Event → EventKind
event_kind (Start unit frames) = kind.Start
event_kind (Admit admission) = kind.Admit
event_kind (Ask client) = kind.Ask
event_kind (HandBack client) = kind.HandBack
event_kind (Leave client) = kind.Leave
event_kind (Estimate client estimate) = kind.Estimate
event_kind (Clock tick) = kind.Clock

abbrev pub event_numbers : Event → List ℕ
event_numbers (Start unit frames) = unit ∷ frames ∷ []
event_numbers (Admit a) = a.client ∷ a.shares ∷ a.class ∷ a.minimum ∷ a.maximum ∷ []
event_numbers (Ask client) = client ∷ []
event_numbers (HandBack client) = client ∷ []
event_numbers (Leave client) = client ∷ []
event_numbers (Estimate client estimate) = client ∷ estimate.active ∷ estimate.end ∷ []
event_numbers (Clock tick) = tick ∷ []

abbrev pub event_line : Event → List ℕ
event_line e = line_of (event_kind e) (event_numbers e)

abbrev pub IsSized : Event → Type 0
IsSized e = AllByRecursion (λ n. n < 2 ^ 32) (event_numbers e)
