-- Lists of refusals: what a call or a question is refused for, in the order of the tests.
--
-- Entry            a refusal, and when it is met
-- entry            such an entry
-- First            the first entry of a list that is met has this refusal
-- Clear            no entry of a list is met
-- Replies          refused by the first entry met; where none is, accepted with a value of which something holds
-- From, Rising     the places rise along a list, from one past a place on; from the first on
-- AllInput         all refusals of a list are from the input, or none is
-- Outside          a number is outside a range
-- offer_entries    the list of making an offer
-- rate_entries     the list of making a taxed price from a rate
-- sheet_entries    the list of filling a tariff sheet of a length at a rate
-- buffer_entries   the list of writing something of a length into a buffer of a length
use Rattle.std.specs.Prelude.{◌≡◌, ℕ, ◌<◌, Bool, ◌⊎◌, List, [], ◌∷◌, Ok, Err, Result}
use Rattle.rules.specs.declared.offer.Offer.{Offer}
use Rattle.rules.specs.Numbers.{Refusal, SharesOutOfRange, ClassOutOfRange, RateOutOfRange, CountOutOfRange, BufferTooShort, is_input, place}

pub record Entry : Type 1 where
  pub refusal : Refusal
  pub when : Type 0

abbrev pub entry : Refusal → Type 0 → Entry
entry r P = record { refusal = r; when = P }

abbrev pub First : List Entry → Refusal → Type 0
First [] r = ⊥
First (e ∷ es) r = (e.when × (r ≡ e.refusal)) ⊎ ((e.when → ⊥) × First es r)

abbrev pub Clear : List Entry → Type 0
Clear [] = Unit {0}
Clear (e ∷ es) = (e.when → ⊥) × Clear es

abbrev pub Replies : {A : Type 0} → List Entry → (A → Type 0) → Result A Refusal → Type 0
Replies es P (Ok a) = Clear es × P a
Replies es P (Err r) = First es r

abbrev pub From : ℕ → List Entry → Type 0
From n [] = Unit {0}
From n (e ∷ es) = (n < place e.refusal) × From (place e.refusal) es

abbrev pub Rising : List Entry → Type 0
Rising es = From 0 es

abbrev pub AllInput : Bool → List Entry → Type 0
AllInput q [] = Unit {0}
AllInput q (e ∷ es) = (is_input e.refusal ≡ q) × AllInput q es

abbrev pub Outside : ℕ → ℕ → ℕ → Type 0
Outside low high n = (n < low) ⊎ (high < n)

abbrev pub offer_entries : Offer → List Entry
offer_entries o =
    entry SharesOutOfRange (Outside 1 1_000_000 o.shares)
    ∷ entry ClassOutOfRange (9 < o.class)
    ∷ entry CountOutOfRange (Outside 1 4_096 o.count)
    ∷ []

abbrev pub rate_entries : ℕ → List Entry
rate_entries rate = entry RateOutOfRange (99 < rate) ∷ []

abbrev pub sheet_entries : ℕ → ℕ → List Entry
sheet_entries rate places = entry RateOutOfRange (99 < rate) ∷ entry CountOutOfRange (4_096 < places) ∷ []

abbrev pub buffer_entries : ℕ → ℕ → List Entry
buffer_entries wanted places = entry BufferTooShort (places < wanted) ∷ []
