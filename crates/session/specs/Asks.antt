-- The prices that are asked for while the passage of a granted slip is open.
--
-- HasPrice      a client has a price at its holding and so many frames more: it is admitted, and may hold so many
-- price_with    that price
-- Lost          a client that may have lost a frame, or nobody
-- taken_from    from whom a frame was taken, and its price at one frame more than it has left; nobody where it was free
use Rattle.std.specs.Prelude.{ℕ, zero, suc, ◌+◌, ◌≤◌, Some, None, Option}
use Rattle.rules.specs.Offers.{Meaning}
use Rattle.rules.specs.declared.offer.Quote.{Quote}
use Rattle.laws.specs.Broker as rules
use Rattle.laws.specs.Broker.{holding}
use Rattle.laws.specs.Calls.{Absent}
use Rattle.laws.specs.Questions.{price_at}
use Rattle.session.specs.declared.printed.Taken.{Taken}

abbrev pub HasPrice : rules.Broker → ℕ → ℕ → Type 0
HasPrice b c k = (Absent b c → ⊥) × (1 ≤ holding b c + k) × (holding b c + k ≤ 4_096)

abbrev pub price_with : Meaning → rules.Broker → ℕ → ℕ → Quote
price_with m b c k = price_at m b c (holding b c + k)

abbrev pub Lost : rules.Broker → ℕ → Type 0
Lost b zero = Unit {0}
Lost b (suc p) = HasPrice b (suc p) 1

abbrev pub taken_from : Meaning → rules.Broker → ℕ → Option Taken
taken_from m b zero = None
taken_from m b (suc p) = Some (record { from = suc p; over = price_with m b (suc p) 1 })
