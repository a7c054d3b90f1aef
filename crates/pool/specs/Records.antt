-- The records of admitted clients, and what is kept of a table of them.
--
-- Member         as in the code: an admitted client's terms, and its estimate
-- offer_at       the offer of a client at a count
-- shares_in, minimum_in   the shares and the minimum in a place of the table, 0 in an empty one
-- estimate_end   the tick at which an estimate ends, if there is one
-- end_in         the tick at which the estimate in a place ends, if there is one
-- ended_in       how many estimates in a place, 0 or 1, end by a tick
-- KeepsEnds      the ends that are kept are those of the estimates in the table
use Rattle.std.specs.Prelude.{◌≡◌, ℕ, List, Some, None, Option}
use Rattle.rules.specs.declared.offer.Offer.{Offer}
use Rattle.laws.specs.ByNumber.{by_number}
use Rattle.laws.specs.Division.{offer_of}
use Rattle.laws.specs.Broker.{Estimate, active_of}
use Rattle.laws.specs.Calls.{ended}
pub use Rattle.pool.specs.declared.member.Member.{Member}

abbrev pub offer_at : Member → ℕ → Offer
offer_at x k =
    offer_of (record { shares = x.shares; class = x.class; minimum = x.minimum; maximum = x.maximum; active = active_of x.estimate }) k

abbrev pub shares_in : Option Member → ℕ
shares_in (Some x) = x.shares
shares_in None = 0

abbrev pub minimum_in : Option Member → ℕ
minimum_in (Some x) = x.minimum
minimum_in None = 0

abbrev pub estimate_end : Option Estimate → Option ℕ
estimate_end (Some e) = Some e.end
estimate_end None = None

abbrev pub end_in : Option Member → Option ℕ
end_in (Some x) = estimate_end x.estimate
end_in None = None

abbrev pub ended_in : ℕ → Option Member → ℕ
ended_in t (Some x) = ended t x.estimate
ended_in t None = 0

abbrev pub KeepsEnds : List (Option Member) → (ℕ → Option ℕ) → Type 0
KeepsEnds xs es = (c : ℕ) → es c ≡ end_in (by_number xs c)
