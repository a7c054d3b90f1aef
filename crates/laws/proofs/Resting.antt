-- Where every client is at its maximum or outbid, the holdings are settled.
use Rattle.std.proofs.Common.{◌≡◌, ℕ, ◌+◌, ◌<◌, ◌≤◌, min, ◌⊎◌, inl, inr, arith}
use Rattle.std.proofs.lemmas.Bool.{cases_lt, false_from_ne_true}
use Rattle.laws.specs.ByNumber.{total}
use Rattle.laws.proofs.Sums.{In, upto_le, upto_lt, upto_same, below_or_not}
use Rattle.laws.proofs.Contest.{Contest, Exchange}
use Rattle.laws.proofs.Payer.{Yields, payer}

-- nothing is free, and c may take from nobody
abbrev pub OutbidAt : (K : Contest) → (ℕ → ℕ) → ℕ → ℕ → Type 0
OutbidAt K h free c = (free ≡ 0) × ((p : ℕ) → Yields K h c p → ⊥)

module _ (K : Contest) (h : ℕ → ℕ) (fits : (c : ℕ) → h c ≤ K.cap c) (F free : ℕ) (all : total h + free ≡ F) (room : total K.low ≤ F)
    (lows : (c : ℕ) → K.low c ≤ K.cap c) (rest : (c : ℕ) → (h c ≡ K.cap c) ⊎ OutbidAt K h free c) where
  out : (c : ℕ) → h c < K.cap c → OutbidAt K h free c
  out c k = elim (rest c) [ inl e ↦ absurd (omega arith) | inr o ↦ o ]

  settled_from : (c : ℕ) → K.low c ≤ h c
  settled_from c = elim (cases_lt (h c) (K.low c)) [ inr g ↦ g | inl k ↦ absurd (no k (out c (omega (arith, lows c))) (below_or_not 256 K.low h)) ]
    where
      no : h c < K.low c → OutbidAt K h free c → ((d : ℕ) × In 256 d × (K.low d < h d)) ⊎ ((d : ℕ) → In 256 d → h d ≤ K.low d) → ⊥
      no k o (inl (d, i, g)) = let p = payer K h fits d g in o.1 p.0 (p.1, inl k)
      no k o (inr a) = omega (arith, upto_lt 256 h K.low a c (K.numbered c (omega (arith, lows c))) k, o.0)

  settled_sum : total h ≡ min F (total K.cap)
  settled_sum =
      elim (below_or_not 256 h K.cap) [
        | inl (c, i, k) ↦ omega (arith, (out c k).0, upto_le 256 h K.cap (λ d j. fits d))
        | inr a ↦ omega (arith, upto_same 256 h K.cap (λ d j. omega (arith, a d j, fits d)))
      ]

  settled_exchange : Exchange K h
  settled_exchange c d ne g k =
      let o = out d k in
      let (p, q) = payer K h fits c g in
      let e = false_from_ne_true (K.over d (h d + 1) p (h p)) (λ x. o.1 p (q, inr x)) in
      grind (arith, e, q.beyond, q.lowest c g, K.past d (h d + 1) p (h p) c (h c), K.decided c (h c) d (h d + 1) ne, fits p, fits c)

  pub settled : ((c : ℕ) → K.low c ≤ h c) × (total h ≡ min F (total K.cap)) × Exchange K h
  settled = (settled_from, settled_sum, settled_exchange)
