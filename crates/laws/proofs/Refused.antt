-- The refusals of calls, cited by name.
use Rattle.std.proofs.Common.{◌<◌, arith}
use Rattle.rules.specs.declared.refusal.Refusal.{Refusal}
use Rattle.rules.specs.Numbers.{place}
use Rattle.rules.specs.Offers.{Meaning}
use Rattle.rules.specs.Refusals.{Rising}
use Rattle.rules.proofs.Named.{When, cleared, met, unmet}
use Rattle.laws.specs.Broker.{Broker}
use Rattle.laws.specs.Calls.{Call, IsClear, RefusedBy, entries}

module _ (m : Meaning) (b : Broker) where
  rises : (x : Call) → Rising (entries m b x)
  rises x = grind arith

  -- a call that is accepted does not meet this refusal
  pub denied : (x : Call) (r : Refusal) → IsClear m b x → When (entries m b x) r → ⊥
  denied x r clear = cleared (entries m b x) r clear

  -- one that is refused meets the refusal that it is answered
  pub reason : (x : Call) (r : Refusal) → RefusedBy m b x r → When (entries m b x) r
  reason x r f = met (entries m b x) r (rises x) f

  -- and none that is tested before
  pub passed : (x : Call) (r q : Refusal) → RefusedBy m b x r → place q < place r → When (entries m b x) q → ⊥
  passed x r q f = unmet (entries m b x) r q (rises x) f
