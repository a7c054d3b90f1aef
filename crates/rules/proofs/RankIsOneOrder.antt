-- The rank is one strict order of bids whose quotes are fractions, as those under lawful prices are.
use Rattle.std.proofs.Common.{◌≡◌, ℕ, ◌*◌, ◌<◌, ◌≤◌, true, false, not, ◌⊎◌, mul-le-mul_right, arith, ltb-false, le-ltb}
use native.Mathlib.Nat.{le_of_mul-le-mul_left}
use Rattle.std.proofs.lemmas.Bool.{not-true, not-false, not_from_false}
use Rattle.std.proofs.lemmas.Bool.Decides.{nat_tests}
use Rattle.rules.specs.Offers.{Offer, Meaning, Valid, at_count, Lawful}
use Rattle.rules.specs.Rank.{Bid, bid, ranks, above, Above, by_minimum, by_class, by_fraction, by_client, by_count, tests}
use Rattle.rules.specs.Laws.{IsFraction, Apart, RankIsOneOrder}
use Rattle.rules.proofs.Tests.{Weak, Each, ranks_asym, ranks_past}

-- fractions in a row, with a positive bottom in the middle
cross : (at ab bt bb ct cb : ℕ) → 1 ≤ bb → at * bb ≤ bt * ab → bt * cb ≤ ct * bb → at * cb ≤ ct * ab
cross at ab bt bb ct cb p h k =
    le_of_mul-le-mul_left {k = bb} (omega (arith, mul-le-mul_right cb h, mul-le-mul_right ab k)) p

abbrev Fair : Bid → Type 0
Fair b = IsFraction b.quote

weak_minimum : Weak Fair by_minimum
weak_minimum =
    record { asym = λ a b h. grind (arith, nat_tests); past = λ a b c pa pb pc h k. grind (arith, nat_tests) }

weak_class : Weak Fair by_class
weak_class =
    record { asym = λ a b h. grind (arith, nat_tests); past = λ a b c pa pb pc h k. grind (arith, nat_tests) }

weak_client : Weak Fair by_client
weak_client =
    record { asym = λ a b h. grind (arith, nat_tests); past = λ a b c pa pb pc h k. grind (arith, nat_tests) }

weak_count : Weak Fair by_count
weak_count =
    record { asym = λ a b h. grind (arith, nat_tests); past = λ a b c pa pb pc h k. grind (arith, nat_tests) }

weak_fraction : Weak Fair by_fraction
weak_fraction =
    record {
      asym = λ a b h. grind (arith, nat_tests);
      past = λ a b c pa pb pc h k. le-ltb _ _ (cross _ _ _ _ _ _ pb (ltb-false _ _ h) (ltb-false _ _ k));
    }

weak_all : Each Fair tests
weak_all = (weak_minimum, (weak_class, (weak_fraction, (weak_client, (weak_count, tt)))))

-- who ranks above another does not rank below it
pub asym : (a b : Bid) → Above a b → above b a ≡ false
unfolding above
asym a b h = ranks_asym Fair tests weak_all a b h

-- who ranks above neither of two in a row does not rank above the last
pub past : (a b c : Bid) → Fair a → Fair b → Fair c → above a b ≡ false → above b c ≡ false → above a c ≡ false
unfolding above
past a b c pa pb pc h k = ranks_past Fair tests weak_all a b c pa pb pc h k

-- one of two bids ranks no higher than the other, and so does the first of three in a row than the last
pub one_no_higher : (a b : Bid) → not (above a b) ≡ false → not (above b a) ≡ true
one_no_higher a b h = not_from_false (above b a) (asym a b (not-false (above a b) h))

pub no_higher_on : (a b c : Bid) → Fair a → Fair b → Fair c → not (above a b) ≡ true → not (above b c) ≡ true →
    not (above a c) ≡ true
no_higher_on a b c pa pb pc h k =
    not_from_false (above a c) (past a b c pa pb pc (not-true (above a b) h) (not-true (above b c) k))

pub decided : (a b : Bid) → Apart a b → Above a b ⊎ Above b a
unfolding above ranks
decided a b d = grind (arith, nat_tests)

pub fraction : (m : Meaning) → Lawful m → (o : Offer) → Valid o → IsFraction (m o)
fraction m l o v = (l.in_range o v).some_bottom

pub own_fall : (m : Meaning) → Lawful m → (c n : ℕ) (o : Offer) (j k : ℕ) →
    Valid (at_count o j) → Valid (at_count o k) → j < k → Above (bid m c n (at_count o j)) (bid m c n (at_count o k))
unfolding above ranks
own_fall m l c n o j k v w h =
    let e = l.one_class o j k v w in
    let f = l.falling o j k v w (omega arith) in
    grind (arith, nat_tests)

pub rank_is_one_order : RankIsOneOrder
rank_is_one_order =
    record {
      one_way = λ a b h k. let n = asym a b h in cc;
      through = λ a b c u v w h k.
          let n = asym a b h in
          let p = past b a c v u w n in
          grind arith;
      decided = decided;
      fraction = fraction;
      own_fall = own_fall;
    }
