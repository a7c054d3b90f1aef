-- The table of the clients' records, by number.
--
-- Members           as in the code
-- member_of         the record of a client, if it is admitted
-- IsSetAt           the table has another record, or none, in a client's place, and nothing else has changed
-- OnlyMembersHold   a client that is not admitted has no frames
use Rattle.std.specs.Prelude.{◌≡◌, ℕ, ◌≢◌, [], None, Option}
use Rattle.laws.specs.ByNumber.{by_number, put}
use Rattle.ledger.specs.declared.ledger.Ledger.{Ledger}
use Rattle.ledger.specs.Ledgers.{stack_of}
use Rattle.pool.specs.Records.{Member}
pub use Rattle.pool.specs.declared.members.Members.{Members}

abbrev pub member_of : Members → ℕ → Option Member
member_of t c = by_number t.table c

abbrev pub IsSetAt : Members → ℕ → Option Member → Members → Type 0
IsSetAt t c v u = (d : ℕ) → member_of u d ≡ put (member_of t) c v d

-- Stack 0 is the free one, and no client's.
abbrev pub OnlyMembersHold : Members → Ledger → Type 0
OnlyMembersHold t l = (c : ℕ) → c ≢ 0 → member_of t c ≡ None → stack_of l c ≡ []
