-- The prices are lawful.
use Rattle.std.proofs.Common.{ℕ, ◌-◌, ◌*◌, ◌≤◌, Bool, true, false, Option, refl, mul-le-mul, mul-le-mul_left, mul-pos, arith}
use Rattle.rules.specs.Offers.{Meaning, Lawful}
use Rattle.rules.specs.Prices.{share, taxed, taxed_bottom, used, classed, one_of}
use Rattle.rules.specs.Laws.{PricesAreLawful}

pub share_is : Lawful share
share_is =
    record {
      in_range = λ o v. omega arith;
      one_class = λ o j k v w. refl;
      falling = λ o j k v w h. mul-le-mul_left o.shares h;
    }

used_le : (a : Option ℕ) (k : ℕ) → used a k ≤ k
used_le a k = grind arith

used_grows : (a : Option ℕ) (j k : ℕ) → j ≤ k → (used a j ≤ used a k) × (j - used a j ≤ k - used a k)
used_grows a j k h = grind arith

-- the tariff sheet never falls
bottom_grows : (r : ℕ) (a : Option ℕ) (j k : ℕ) → j ≤ k → taxed_bottom r a j ≤ taxed_bottom r a k
bottom_grows r a j k h = let g = used_grows a j k h in omega (arith, mul-le-mul_left (100 - r) g.0)

-- an active frame counts at least 1 in the bottom, and an idle one 100
pub some_bottom : (r : ℕ) (a : Option ℕ) (k : ℕ) → r ≤ 99 → 1 ≤ k → 1 ≤ taxed_bottom r a k
some_bottom r a k h g =
    let p : 1 ≤ 100 - r = omega arith in omega (arith, used_le a k, mul-le-mul_left (used a k) p)

-- and no frame counts more than 100
pub few_bottom : (r : ℕ) (a : Option ℕ) (k : ℕ) → taxed_bottom r a k ≤ 100 * k
few_bottom r a k = let q : 100 - r ≤ 100 = omega arith in omega (arith, used_le a k, mul-le-mul_left (used a k) q)

pub taxed_is : (r : ℕ) → r ≤ 99 → Lawful (taxed r)
taxed_is r h =
    record {
      in_range = λ o v.
          let p : 1 ≤ 100 - r = omega arith in
          let q : 100 - r ≤ 100 = omega arith in
          let low = some_bottom r o.active o.count h v.some_frame in
          omega (arith, mul-pos v.some_shares p, mul-le-mul v.few_shares q, low, few_bottom r o.active o.count);
      one_class = λ o j k v w. refl;
      falling = λ o j k v w g. mul-le-mul_left (o.shares * (100 - r)) (bottom_grows r o.active j k g);
    }

pub classed_is : (m : Meaning) → Lawful m → Lawful (classed m)
classed_is m l =
    record {
      in_range = λ o v. omega (arith, l.in_range o v);
      one_class = λ o j k v w. refl;
      falling = l.falling;
    }

pub one_of_is : (first : Bool) (m n : Meaning) → Lawful m → Lawful n → Lawful (one_of first m n)
one_of_is true m n l k = l
one_of_is false m n l k = k

pub prices_are_lawful : PricesAreLawful
prices_are_lawful = record { share_is = share_is; taxed_is = taxed_is; classed_is = classed_is; one_of_is = one_of_is }
