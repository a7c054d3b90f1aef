-- Tests that are total and transitive.
use Rattle.std.proofs.Common.{◌≡◌, Bool, true, false, arith}
use Rattle.heap.specs.Heaps.{none_first}

pub record Lawful {X : Type 0} (le : X → X → Bool) : Type 0 where
  pub total : (x y : X) → le x y ≡ false → le y x ≡ true
  pub chain : (x y z : X) → le x y ≡ true → le y z ≡ true → le x z ≡ true

pub leads_itself : {X : Type 0} {le : X → X → Bool} → Lawful le → (x : X) → le x x ≡ true
leads_itself law x = grind (arith, law.total x x)

pub none_first_lawful : {K : Type 0} {le : K → K → Bool} → Lawful le → Lawful (none_first le)
none_first_lawful law = record { total = λ x y h. grind (arith, law.total); chain = λ x y z h k. grind (arith, law.chain) }

-- the laws of a bound, for keys that may be absent
pub key_laws : {K : Type 0} {le : K → K → Bool} → ((x y : K) → le x y ≡ false → le y x ≡ true) → ((x y z : K) → le x y ≡ true → le y z ≡ true → le x z ≡ true) → Lawful (none_first le)
key_laws t c = none_first_lawful (record { total = t; chain = c })
