-- Sums over the numbers from 1 to n.
use Rattle.std.proofs.Common.{◌≡◌, ℕ, zero, suc, ◌+◌, ◌-◌, ◌*◌, ◌<◌, ◌≤◌, ◌≢◌, ◌⊎◌, sym, ap, inl, inr, mul-zero, arith}
use Rattle.std.proofs.lemmas.Bool.{cases_lt, cases_eq}
use Rattle.laws.specs.ByNumber.{upto}

abbrev pub In : ℕ → ℕ → Type 0
In n c = (1 ≤ c) × (c ≤ n)

pub upto_minus : (n : ℕ) (f g : ℕ → ℕ) → ((c : ℕ) → In n c → g c ≤ f c) → upto n (λ c. f c - g c) + upto n g ≡ upto n f
unfolding upto
upto_minus zero f g h = omega arith
upto_minus (suc n) f g h = omega (arith, upto_minus n f g (λ c i. h c (omega arith)), h (suc n) (omega arith))

pub upto_le : (n : ℕ) (f g : ℕ → ℕ) → ((c : ℕ) → In n c → f c ≤ g c) → upto n f ≤ upto n g
upto_le n f g h = omega (arith, upto_minus n g f h)

pub upto_same : (n : ℕ) (f g : ℕ → ℕ) → ((c : ℕ) → In n c → f c ≡ g c) → upto n f ≡ upto n g
upto_same n f g h = omega (arith, upto_le n f g (λ c i. omega (arith, h c i)), upto_le n g f (λ c i. omega (arith, h c i)))

pub upto_times : (n : ℕ) (k : ℕ) (f : ℕ → ℕ) → upto n (λ c. k * f c) ≡ k * upto n f
unfolding upto
upto_times zero k f = sym (mul-zero k)
upto_times (suc n) k f = omega (arith, upto_times n k f)

pub upto_zero : (n : ℕ) → upto n (λ _. 0) ≡ 0
upto_zero n = omega (arith, upto_times n 0 (λ _. 0))

-- two functions that differ at c alone
pub upto_changed : (n : ℕ) (f g : ℕ → ℕ) (c : ℕ) → In n c → ((d : ℕ) → d ≢ c → f d ≡ g d) → upto n f + g c ≡ upto n g + f c
unfolding upto
upto_changed zero f g c i h = omega arith
upto_changed (suc n) f g c i h =
    elim (cases_eq c (suc n)) [
      | inl e ↦ omega (arith, upto_same n f g (λ d j. h d (omega arith)), ap f e, ap g e)
      | inr e ↦ omega (arith, upto_changed n f g c (omega arith) h, h (suc n) (omega arith))
    ]

pub at_le_upto : (n : ℕ) (f : ℕ → ℕ) (c : ℕ) → In n c → f c ≤ upto n f
unfolding upto
at_le_upto zero f c i = omega arith
at_le_upto (suc n) f c i =
    elim (cases_eq c (suc n)) [ inl e ↦ omega (arith, ap f e) | inr e ↦ omega (arith, at_le_upto n f c (omega arith)) ]

pub upto_lt : (n : ℕ) (f g : ℕ → ℕ) → ((c : ℕ) → In n c → f c ≤ g c) → (c : ℕ) → In n c → f c < g c → upto n f < upto n g
upto_lt n f g h c i l = omega (arith, upto_minus n g f h, at_le_upto n (λ d. g d - f d) c i)

-- somewhere f is below g, or nowhere
pub below_or_not : (n : ℕ) (f g : ℕ → ℕ) → ((c : ℕ) × In n c × (f c < g c)) ⊎ ((c : ℕ) → In n c → g c ≤ f c)
below_or_not zero f g = inr (omega arith)
below_or_not (suc n) f g =
    elim (cases_lt (f (suc n)) (g (suc n))) [
      | inl h ↦ inl (suc n, omega arith, h)
      | inr h ↦ elim (below_or_not n f g) [
        | inl s ↦ inl (s.0, omega arith, s.2)
        | inr a ↦ inr (λ c i. elim (cases_eq c (suc n)) [ inl e ↦ omega (arith, ap f e, ap g e) | inr e ↦ a c (omega arith) ])
      ]
    ]

-- where the sum of f is no more and f is above g at c, it is below g somewhere
pub below_too : (n : ℕ) (f g : ℕ → ℕ) → upto n f ≤ upto n g → (c : ℕ) → In n c → g c < f c → (d : ℕ) × In n d × (f d < g d)
below_too n f g e c i l =
    elim (below_or_not n f g) [ inl s ↦ s | inr a ↦ absurd (omega (arith, upto_lt n g f a c i l)) ]
