-- The rank of two bids: five tests, and the first that separates them decides.
--
-- Bid           as in the code: a client's number and minimum, the count of frames of its offer, and a price's quote for it
-- bid           the bid that a client with a minimum makes by an offer, under a price
-- Test          a bid is tested against another, and wins or not
-- by_minimum    a count up to the minimum wins against one beyond the minimum
-- by_class      the higher class wins
-- by_fraction   the larger fraction wins
-- by_client     the lower client number wins
-- by_count      the smaller count wins
-- tests         these five, in this order
-- ranks         the first test that separates two bids decides
-- above         one bid ranks above another, as a truth value
-- Above         one bid ranks above another
use Rattle.std.specs.Prelude.{◌≡◌, ℕ, ◌*◌, Bool, true, false, cond, List, [], ◌∷◌, nat_le, nat_lt}
use Rattle.rules.specs.Offers.{Offer, Meaning}
pub use Rattle.rules.specs.declared.offer.Bid.{Bid}

abbrev pub bid : Meaning → ℕ → ℕ → Offer → Bid
bid m c n o = record { client = c; minimum = n; count = o.count; quote = m o }

abbrev pub Test : Type 0
Test = Bid → Bid → Bool

abbrev pub by_minimum : Test
by_minimum a b = cond (nat_le a.count a.minimum) (nat_lt b.minimum b.count) false

abbrev pub by_class : Test
by_class a b = nat_lt b.quote.class a.quote.class

-- By cross products: nothing is divided or rounded.
abbrev pub by_fraction : Test
by_fraction a b = nat_lt (b.quote.top * a.quote.bottom) (a.quote.top * b.quote.bottom)

abbrev pub by_client : Test
by_client a b = nat_lt a.client b.client

abbrev pub by_count : Test
by_count a b = nat_lt a.count b.count

abbrev pub tests : List Test
tests = by_minimum ∷ by_class ∷ by_fraction ∷ by_client ∷ by_count ∷ []

-- A test separates two bids where one of them wins it against the other.
unfoldable pub ranks : List Test → Test
ranks [] a b = false
ranks (t ∷ ts) a b = cond (t a b) true (cond (t b a) false (ranks ts a b))

unfoldable pub above : Test
above a b = ranks tests a b

abbrev pub Above : Bid → Bid → Type 0
Above a b = above a b ≡ true
