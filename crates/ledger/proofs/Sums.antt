-- Sums over the first n numbers, where a function changes at one or two of them.
use Rattle.std.proofs.Common.{◌≡◌, ℕ, zero, suc, ◌+◌, ◌<◌, ◌≤◌, List, map, sum, length, get_or, set, sym, refl, ap, arith}
use Rattle.std.specs.List.{range_with_len}
use Rattle.std.proofs.lemmas.List.{ext_get_or, length-set, get_or-set_same, get_or-set_other}
use Rattle.std.proofs.lemmas.List.Sums.{sum_by-set, sum_by-cons}
use Rattle.std.proofs.lemmas.List.FromFn.{get_or-map-range_with_len, length-map-range_with_len}
use Rattle.std.proofs.lemmas.Bool.{cases_eq}
use Rattle.ledger.specs.Stacks.{summed}

abbrev pub firsts : (ℕ → ℕ) → ℕ → List ℕ
firsts g n = map g (range_with_len 0 n)

sum_none : (g : ℕ → ℕ) (a n : ℕ) → ((o : ℕ) → a ≤ o → g o ≡ 0) → sum (map g (range_with_len a n)) ≡ 0
sum_none g a zero none = refl
sum_none g a (suc n) none =
    omega (arith, sum_by-cons (λ x. x) (g a) (map g (range_with_len (a + 1) n)), sum_none g (a + 1) n (λ o l. none o (omega arith)), none a (omega arith))

long : (g : ℕ → ℕ) (n : ℕ) → length (firsts g n) ≡ n
long g n = length-map-range_with_len g 0 n

at : (g : ℕ → ℕ) (n a : ℕ) → a < n → get_or (firsts g n) a 0 ≡ g a
at g n a la = get_or-map-range_with_len g 0 n a a 0 la (omega arith)

-- only the first is not 0
pub summed_first : (g : ℕ → ℕ) (n : ℕ) → ((o : ℕ) → 1 ≤ o → g o ≡ 0) → summed g (suc n) ≡ g 0
unfolding summed
summed_first g n none = omega (arith, sum_by-cons (λ x. x) (g 0) (map g (range_with_len 1 n)), sum_none g 1 n none)

module _ (g : ℕ → ℕ) (n a : ℕ) (la : a < n) where
  -- the sum with v in the place of g a
  one_set : (v : ℕ) → sum (set (firsts g n) a v) + g a ≡ sum (firsts g n) + v
  one_set v = omega (arith, sum_by-set (λ x. x) (firsts g n) a v 0 (omega (arith, long g n)), at g n a la)

  pub one_in : g a ≤ summed g n
  unfolding summed
  one_in = omega (arith, one_set 0)

  module _ (b : ℕ) (lb : b < n) (d : a ≡ b → ⊥) where
    two_set : (v w : ℕ) → sum (set (set (firsts g n) a v) b w) + g a + g b ≡ sum (firsts g n) + v + w
    two_set v w =
        let xs = firsts g n in
        omega (
          arith,
          one_set v,
          sum_by-set (λ x. x) (set xs a v) b w 0 (omega (arith, length-set xs a v, long g n)),
          get_or-set_other xs a b v 0 (λ e. d (sym e)),
          at g n b lb,
        )

    pub two_in : g a + g b ≤ summed g n
    unfolding summed
    two_in = omega (arith, two_set 0 0)

    -- what one loses, another gains
    pub shifted : (h : ℕ → ℕ) (v : ℕ) → g a ≡ v + h a → h b ≡ v + g b → ((o : ℕ) → (o ≡ a → ⊥) → (o ≡ b → ⊥) → h o ≡ g o) → summed h n ≡ summed g n
    unfolding summed
    shifted h v ea eb e = omega (arith, two_set (h a) (h b), ap sum same)
      where
        each : (i : ℕ) → i < length (firsts h n) → get_or (firsts h n) i 0 ≡ get_or (set (set (firsts g n) a (h a)) b (h b)) i 0
        each i l = grind (arith, cases_eq i a, cases_eq i b, long h n, long g n, at h n i, at g n i, e i, length-set (firsts g n) a (h a), get_or-set_same (firsts g n) a (h a) 0, get_or-set_same (set (firsts g n) a (h a)) b (h b) 0, get_or-set_other (firsts g n) a i (h a) 0, get_or-set_other (set (firsts g n) a (h a)) b i (h b) 0)

        same : firsts h n ≡ set (set (firsts g n) a (h a)) b (h b)
        same = ext_get_or 0 _ _ (omega (arith, long h n, long g n, length-set (firsts g n) a (h a), length-set (set (firsts g n) a (h a)) b (h b))) each
