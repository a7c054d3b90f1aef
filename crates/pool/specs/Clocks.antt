-- A clock that drops one estimate after another.
--
-- FindsEnded     the client of an estimate that ends by a tick, with its record; or none, where no estimate does
-- at_tick        the broker with its clock at another tick
-- DropsFrom      a client's estimate ended by a tick and was dropped, and nothing else was changed
-- Drops          some client's estimate was dropped so; where there is no such client, no estimate ends by the tick
-- DropsMany      of the clients cs, n estimates that end by a tick were dropped, and ds are left
use Rattle.std.specs.Prelude.{◌≡◌, ℕ, ◌+◌, Some, None, Option}
use Rattle.laws.specs.ByNumber.{total, Numbered, put}
use Rattle.laws.specs.Broker.{Client, Broker}
use Rattle.laws.specs.Calls.{lasting, ended, ends, moved, with_estimate}
use Rattle.pool.specs.Records.{Member, ended_in}
use Rattle.pool.specs.Members.{Members, member_of}

abbrev pub FindsEnded : Members → ℕ → Option (ℕ × Member) → Type 0
FindsEnded t k (Some p) = Numbered p.0 × (member_of t p.0 ≡ Some p.1) × (ended k p.1.estimate ≡ 1)
FindsEnded t k None = (c : ℕ) → ended_in k (member_of t c) ≡ 0

abbrev pub at_tick : Broker → ℕ → Broker
at_tick b t = record b { tick = t }

pub record DropsFrom (t : ℕ) (b : Broker) (c : ℕ) (d : Broker) : Type 0 where
  pub numbered : Numbered c
  pub client : Client
  pub there : b.clients c ≡ Some client
  pub over : ended t client.estimate ≡ 1
  pub after : d ≡ moved b b.free (put b.clients c (Some (with_estimate client None)))

abbrev pub Drops : ℕ → Broker → Option ℕ → Broker → Type 0
Drops t b (Some c) d = DropsFrom t b c d
Drops t b None d = (d ≡ b) × ((c : ℕ) → ends t (b.clients c) ≡ 0)

pub record DropsMany (t : ℕ) (cs : ℕ → Option Client) (n : ℕ) (ds : ℕ → Option Client) : Type 0 where
  pub last : (c : ℕ) → lasting t (ds c) ≡ lasting t (cs c)
  pub count : n + total (λ c. ends t (ds c)) ≡ total (λ c. ends t (cs c))
