-- Numbers are in one order, by the test that the heaps of clients go by.
use Rattle.std.proofs.Common.{◌≡◌, ℕ, true, false, nat_le, arith}
use Rattle.std.proofs.lemmas.Bool.Decides.{nat_tests}

pub one_leads : (x y : ℕ) → nat_le x y ≡ false → nat_le y x ≡ true
one_leads x y h = grind (arith, nat_tests, h)

pub leads_on : (x y z : ℕ) → nat_le x y ≡ true → nat_le y z ≡ true → nat_le x z ≡ true
leads_on x y z h k = grind (arith, nat_tests, h, k)
