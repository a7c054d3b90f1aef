-- Under the share price, with every minimum within its client's proportional share: who is outbid has its share, rounded
-- down, and who loses a frame had more.
use Rattle.std.proofs.Common.{◌≡◌, ℕ, ◌+◌, ◌*◌, ◌<◌, ◌≤◌, true, ◌⊎◌, ap, inl, inr, lt_of_mul-lt-mul_right, mul-le-mul_left, mul-lt-mul_of_pos_right, arith}
use native.Mathlib.Nat.{lt_of_mul-lt-mul_left, le_of_mul-le-mul_left}
use Rattle.std.proofs.lemmas.Bool.{cases_lt, false_from_ne_true}
use Rattle.laws.specs.ByNumber.{total}
use Rattle.laws.proofs.Sums.{In, upto_lt, upto_times, below_or_not, below_too, at_le_upto}
use Rattle.laws.proofs.Contest.{Contest, Can}
use Rattle.laws.proofs.Payer.{Yields, payer}
use Rattle.laws.proofs.Resting.{OutbidAt}

-- j frames are within the part of a shares, and k are more than the part of b
crossed : (F S a j b k : ℕ) → 1 ≤ j → j * S ≤ F * a → F * b < k * S → b * j < a * k
crossed F S a j b k p h g =
    lt_of_mul-lt-mul_left F (omega (arith, mul-lt-mul_of_pos_right {k = j} g p, mul-le-mul_left k h))

module _ (K : Contest) (h : ℕ → ℕ) (fits : (c : ℕ) → h c ≤ K.cap c) (sh : ℕ → ℕ) (F : ℕ) (full : total h ≡ F)
    (fraction : (c j d k : ℕ) → Can K.cap c j → Can K.cap d k → K.low c < j → K.low d < k → sh d * j < sh c * k → K.over c j d k ≡ true)
    (within : (c : ℕ) → K.low c * total sh ≤ F * sh c) (some : (c : ℕ) → 1 ≤ K.cap c → 1 ≤ sh c) where
  abbrev S : ℕ
  S = total sh

  abbrev have : ℕ → ℕ
  have d = S * h d

  abbrev due : ℕ → ℕ
  due d = F * sh d

  equal : total have ≡ total due
  equal = omega (arith, upto_times 256 S h, upto_times 256 F sh, ap (λ x. x * S) full)

  -- who has more than its part has more than its minimum
  beyond : (d : ℕ) → due d < have d → K.low d < h d
  beyond d g = lt_of_mul-lt-mul_right S (omega (arith, within d))

  positive : (c : ℕ) → h c < K.cap c → 1 ≤ S
  positive c k = omega (arith, at_le_upto 256 sh c (K.numbered c (omega arith)), some c (omega arith))

  -- a client outbid has its part, rounded down: one frame more would be over it
  pub outbid_has_part : (c : ℕ) → h c < K.cap c → OutbidAt K h 0 c → F * sh c < (h c + 1) * total sh
  outbid_has_part c k o = omega (arith, no)
    where
      no : (h c + 1) * total sh ≤ F * sh c → ⊥
      no g =
          let (d, i, more) = below_too 256 due have (omega (arith, equal)) c (K.numbered c (omega arith)) (omega (arith, positive c k)) in
          let b = beyond d more in
          let (p, q) = payer K h fits d b in
          let under : h c < K.low c → ⊥ = λ u. o.1 p (q, inl u) in
          let below_p = false_from_ne_true (K.over c (h c + 1) p (h p)) (λ e. o.1 p (q, inr e)) in
          grind (arith, g, more, under, fits p, fits d, q.beyond, fraction c (h c + 1) d (h d), crossed F S (sh c) (h c + 1) (sh d) (h d), below_p, q.lowest d b, K.past c (h c + 1) p (h p) d (h d))

  -- a client that loses a frame had more than its part
  pub loser_had_more : (c p : ℕ) → h c < K.cap c → Yields K h c p → F * sh p < h p * total sh
  loser_had_more c p k y =
      elim (cases_lt (F * sh p) (h p * total sh)) [ inl g ↦ g | inr g ↦ absurd (no g (below_or_not 256 due have)) ]
    where
      can : Can K.cap p (h p)
      can = omega (arith, y.0.beyond, fits p)

      no : h p * total sh ≤ F * sh p → ((d : ℕ) × In 256 d × (due d < have d)) ⊎ ((d : ℕ) → In 256 d → have d ≤ due d) → ⊥
      no g (inl (d, i, more)) =
          let b = beyond d more in
          grind (arith, g, more, can, fits d, y.0.beyond, fraction p (h p) d (h d), crossed F S (sh p) (h p) (sh d) (h d), y.0.lowest d b)
      no g (inr a) =
          let e : F * sh c ≤ S * h c = grind (arith, equal, upto_lt 256 have due a c (K.numbered c (omega arith))) in
          let s = positive c k in
          let b : K.low c ≤ h c = le_of_mul-le-mul_left {k = S} (omega (arith, within c)) s in
          grind (arith, g, s, b, e, can, y.0.beyond, y.1, fraction p (h p) c (h c + 1), crossed F S (sh p) (h p) (sh c) (h c + 1), K.asym p (h p) c (h c + 1))
