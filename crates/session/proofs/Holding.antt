-- What clients hold, and who has a price.
use Rattle.std.proofs.Common.{◌≡◌, ℕ, ◌<◌, ◌≤◌, None, Ok, Err, Result, refl, ap, arith}
use Rattle.rules.specs.Offers.{Meaning}
use Rattle.rules.specs.declared.offer.Quote.{Quote}
use Rattle.rules.specs.declared.refusal.Refusal.{Refusal}
use Rattle.rules.specs.Refusals.{Clear, Replies}
use Rattle.laws.specs.Broker.{holding}
use Rattle.laws.specs.Calls.{Absent}
use Rattle.laws.specs.Questions.{price_entries, price_at}
use Rattle.laws.proofs.Kept.{held_of as length_of}
use Rattle.laws.proofs.One.{first_or_clear}
use Rattle.pool.specs.declared.pool.Pool.{Pool}
use Rattle.pool.specs.View.{view}
use Rattle.pool.proofs.Tables.{few_held, there_numbered}
use Rattle.session.specs.Input.{held_by}

module _ (b : Pool) (c : ℕ) where
  -- who holds a frame is there
  pub holder_there : 0 < holding (view b) c → Absent (view b) c → ⊥
  holder_there h none = omega (arith, ap length_of none)

  pub price_told : (Absent (view b) c → ⊥) → (k : ℕ) → 1 ≤ k → k ≤ 4_096 → Clear (price_entries (view b) c k)
  price_told there k low high = (omega (arith, there_numbered b c there), (omega arith, (there, tt)))

-- who has no price holds nothing
pub unpriced : (m : Meaning) (b : Pool) (c n : ℕ) → n ≡ holding (view b) c → (r : Result Quote Refusal) →
    Replies (price_entries (view b) c n) (λ q. q ≡ price_at m (view b) c n) r → ((q : Quote) → r ≡ Ok q → ⊥) → None ≡ held_by m (view b) c
unpriced m b c n e (Ok q) t never = absurd (never q refl)
unpriced m b c n e (Err r) t never =
    let priced : 0 < holding (view b) c → ⊥ = λ h. first_or_clear (price_entries (view b) c n) r t (price_told b c (holder_there b c h) n (omega arith) (omega (arith, few_held b c))) in
    let nothing : holding (view b) c ≡ 0 = omega (arith, priced) in
    rw nothing
