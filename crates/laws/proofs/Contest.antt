-- Clients with fixed terms, whose bids stand in one order: all that divisions and runs need of the rank.
use Rattle.std.proofs.Common.{◌≡◌, ℕ, ◌+◌, ◌<◌, ◌≤◌, Bool, true, false, ◌≢◌, ◌⊎◌, arith}
use Rattle.laws.specs.ByNumber.{Numbered}

-- a client may come to hold k frames
abbrev pub Can : (ℕ → ℕ) → ℕ → ℕ → Type 0
Can cap c k = (1 ≤ k) × (k ≤ cap c)

-- low and cap are the clients' minimums and maximums; over c j d k says that the bid of c at j ranks above that of d at k
pub record Contest : Type 0 where
  pub low : ℕ → ℕ
  pub cap : ℕ → ℕ
  pub over : ℕ → ℕ → ℕ → ℕ → Bool
  pub numbered : (c : ℕ) → 1 ≤ cap c → Numbered c
  pub asym : (c j d k : ℕ) → Can cap c j → Can cap d k → over c j d k ≡ true → over d k c j ≡ false
  pub past : (c i d j e k : ℕ) → Can cap c i → Can cap d j → Can cap e k → over c i d j ≡ false → over d j e k ≡ false → over c i e k ≡ false
  pub fall : (c j k : ℕ) → Can cap c j → Can cap c k → j < k → over c j c k ≡ true
  pub decided : (c j d k : ℕ) → c ≢ d → (over c j d k ≡ true) ⊎ (over d k c j ≡ true)

module _ (K : Contest) where
  pub irr : (c j : ℕ) → Can K.cap c j → K.over c j c j ≡ false
  irr c j p = grind (arith, K.asym c j c j p p)

  -- more frames never rank above fewer
  pub no_rise : (c j k : ℕ) → 1 ≤ j → j ≤ k → k ≤ K.cap c → K.over c k c j ≡ false
  no_rise c j k p h q =
      grind (arith, irr c j, K.asym c j c k, K.fall c j k)

  -- what one has beyond its minimum ranks above what another below its maximum would get next
  abbrev pub Exchange : (ℕ → ℕ) → Type 0
  Exchange n = (c d : ℕ) → c ≢ d → K.low c < n c → n d < K.cap d → K.over c (n c) d (n d + 1) ≡ true

  -- two such divisions never differ both ways
  pub no_two : (n o : ℕ → ℕ) → ((c : ℕ) → K.low c ≤ n c) → ((c : ℕ) → K.low c ≤ o c) → ((c : ℕ) → n c ≤ K.cap c) → ((c : ℕ) → o c ≤ K.cap c) →
      Exchange n → Exchange o → (c d : ℕ) → n c < o c → o d < n d → ⊥
  no_two n o ln lo nc oc sn so c d h k =
      -- d's last under n ranks above no next of d under o, that above no last of c under o, and that above no next of c under n
      let past_c = K.past d (n d) d (o d + 1) c (o c) in
      let past_d = K.past d (n d) c (o c) c (n c + 1) in
      grind (arith, ln c, lo d, nc d, oc c, so c d, K.asym c (o c) d (o d + 1), no_rise d (o d + 1) (n d), past_c, no_rise c (n c + 1) (o c), past_d, sn d c)
