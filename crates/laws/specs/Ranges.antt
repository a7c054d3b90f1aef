-- The ranges that a broker stays in.
--
-- TickFits          the tick that a call gives, where it gives one, is a 32-bit number, as in code
-- IsClientInRange   a client is in its ranges, in a pool of so many frames, at a tick
-- IsInRange         the broker and all its clients are
use Rattle.std.specs.Prelude.{◌≡◌, ℕ, ◌^◌, ◌<◌, ◌≤◌, ◌⊎◌, length, Some}
use Rattle.laws.specs.ByNumber.{total, Numbered}
use Rattle.laws.specs.Division.{minimum_of}
use Rattle.laws.specs.Broker.{Estimate, Client, Broker, present}
use Rattle.laws.specs.Calls.{Call, Start, Admit, Ask, Deliver, HandBack, Leave, SetEstimate, SetClock}

abbrev pub TickFits : Call → Type 0
TickFits (Start u F) = Unit {0}
TickFits (Admit a) = Unit {0}
TickFits (Ask c) = Unit {0}
TickFits (Deliver s) = Unit {0}
TickFits (HandBack c) = Unit {0}
TickFits (Leave c) = Unit {0}
TickFits (SetEstimate c e) = e.end < 2 ^ 32
TickFits (SetClock t) = t < 2 ^ 32

pub record IsClientInRange (F t c : ℕ) (x : Client) : Type 0 where
  pub numbered : Numbered c
  pub shares : (1 ≤ x.shares) × (x.shares ≤ 1_000_000)
  pub class : x.class ≤ 9
  pub minimum : x.minimum ≤ x.maximum
  pub maximum : (1 ≤ x.maximum) × (x.maximum ≤ F)
  pub holding : length x.stack ≤ x.maximum
  -- an estimate ends after the tick
  pub estimate : (e : Estimate) → x.estimate ≡ Some e → (e.active ≤ F) × (t < e.end)

pub record IsInRange (b : Broker) : Type 0 where
  -- both are 0 before the start
  pub started : ((b.unit ≡ 0) × (b.frames ≡ 0)) ⊎ ((1 ≤ b.unit) × (1 ≤ b.frames))
  pub unit : b.unit ≤ 999
  pub frames : b.frames ≤ 4_096
  pub minimums : total (minimum_of (present b)) ≤ b.frames
  pub clients : (c : ℕ) (x : Client) → b.clients c ≡ Some x → IsClientInRange b.frames b.tick c x
