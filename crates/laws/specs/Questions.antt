-- Questions to a broker, which change nothing and are answered also while a passage is open.
--
-- price_entries    what the question for the price of a client at a count is refused for
-- client_entries   what the questions for a client's holding and its proportional share are refused for
-- price_at         the price of a client at a count
-- LowestIs         the answer to the question for the lowest payer, which is never refused: that client, or none
use Rattle.std.specs.Prelude.{ℕ, List, [], ◌∷◌, ◌++◌, Some, None, Option}
use Rattle.rules.specs.declared.offer.Quote.{Quote}
use Rattle.rules.specs.declared.refusal.Refusal.TheVariants.{CountOutOfRange, NotAdmitted}
use Rattle.rules.specs.Offers.{Meaning}
use Rattle.rules.specs.Refusals.{Entry, entry, Outside}
use Rattle.laws.specs.Division.{terms, offer_of}
use Rattle.laws.specs.Broker.{Broker, present, Beyond, LowestPayer}
use Rattle.laws.specs.Calls.{Absent, client_inputs}

abbrev pub price_entries : Broker → ℕ → ℕ → List Entry
price_entries b c count =
    client_inputs c
    ++ (entry CountOutOfRange (Outside 1 4_096 count)
    ∷ entry NotAdmitted (Absent b c)
    ∷ [])

abbrev pub client_entries : Broker → ℕ → List Entry
client_entries b c = client_inputs c ++ (entry NotAdmitted (Absent b c) ∷ [])

abbrev pub price_at : Meaning → Broker → ℕ → ℕ → Quote
price_at m b c count = m (offer_of (terms (present b c)) count)

abbrev pub LowestIs : Meaning → Broker → Option ℕ → Type 0
LowestIs m b (Some p) = LowestPayer m b p
LowestIs m b None = (c : ℕ) → Beyond b c → ⊥
