-- What stands on the line of each kind of event.
--
-- letter         the letter of each kind of event
-- number_count   how many numbers follow the letter
use Rattle.std.specs.Prelude.{ℕ}
pub use Rattle.events.specs.declared.word.EventKind.{EventKind}
pub use Rattle.events.specs.declared.word.EventKind.TheVariants.{Start, Admit, Ask, HandBack, Leave, Estimate, Clock}

-- S, A, Q, H, L, E and T
abbrev pub letter : EventKind → ℕ
letter Start = 83
letter Admit = 65
letter Ask = 81
letter HandBack = 72
letter Leave = 76
letter Estimate = 69
letter Clock = 84

abbrev pub number_count : EventKind → ℕ
number_count Start = 2
number_count Admit = 5
number_count Ask = 1
number_count HandBack = 1
number_count Leave = 1
number_count Estimate = 3
number_count Clock = 1
