-- The lowest payer.
use Rattle.std.proofs.Common.{◌≡◌, ℕ, zero, suc, ◌+◌, ◌<◌, ◌≤◌, true, false, ◌≢◌, ◌⊎◌, sym, subst, inl, inr, arith}
use Rattle.std.proofs.lemmas.Bool.{cases_lt, cases_eq, cases_Bool}
use Rattle.laws.proofs.Sums.{In}
use Rattle.laws.proofs.Contest.{Contest, Can, irr, no_rise}

-- p holds more than its minimum, and its bid ranks above that of no client that does
pub record Payer (K : Contest) (h : ℕ → ℕ) (p : ℕ) : Type 0 where
  pub beyond : K.low p < h p
  pub lowest : (d : ℕ) → K.low d < h d → K.over p (h p) d (h d) ≡ false

-- c may take a frame from p
abbrev pub Yields : (K : Contest) → (ℕ → ℕ) → ℕ → ℕ → Type 0
Yields K h c p = Payer K h p × ((h c < K.low c) ⊎ (K.over c (h c + 1) p (h p) ≡ true))

module _ (K : Contest) (h : ℕ → ℕ) (fits : (c : ℕ) → h c ≤ K.cap c) where
  -- d, if it holds more than its minimum, pays no less than p
  abbrev Pays : ℕ → ℕ → Type 0
  Pays p d = K.low d < h d → K.over p (h p) d (h d) ≡ false

  -- p pays least of all up to n
  abbrev Least : ℕ → Type 0
  Least n = (p : ℕ) × (K.low p < h p) × ((d : ℕ) → In n d → Pays p d)

  held : (d : ℕ) → K.low d < h d → Can K.cap d (h d)
  held d g = omega (arith, fits d)

  -- what holds up to n and at the next
  next : (n : ℕ) (P : ℕ → Type 0) → ((d : ℕ) → In n d → P d) → P (suc n) → (d : ℕ) → In (suc n) d → P d
  next n P a b d i = elim (cases_eq d (suc n)) [ inl e ↦ subst P (sym e) b | inr e ↦ a d (omega arith) ]

  least : (c : ℕ) → K.low c < h c → (n : ℕ) → Least n
  least c g zero = (c, g, λ d i. absurd (omega arith))
  least c g (suc n) = step (least c g n) (cases_lt (K.low q) (h q))
    where
      q : ℕ
      q = suc n

      step : Least n → (K.low q < h q) ⊎ (h q ≤ K.low q) → Least q
      step (p, b, l) (inr k) = (p, b, next n (Pays p) l (λ g. absurd (omega arith)))
      step (p, b, l) (inl k) =
          elim (cases_Bool (K.over p (h p) q (h q))) [
            | inl e ↦ (
              q,
              k,
              next n (Pays q)
                  (λ d i g. K.past q (h q) p (h p) d (h d) (held q k) (held p b) (held d g) (K.asym p (h p) q (h q) (held p b) (held q k) e) (l d i g))
                  (λ g. irr K q (h q) (held q k)),
            )
            | inr e ↦ (p, b, next n (Pays p) l (λ g. e))
          ]

  -- where one holds more than its minimum, there is a lowest payer
  pub payer : (c : ℕ) → K.low c < h c → (p : ℕ) × Payer K h p
  payer c g = let x = least c g 256 in (x.0, record { beyond = x.1; lowest = λ d k. x.2 d (K.numbered d (omega (arith, fits d))) k })

  -- who may take a frame does not take it from itself
  pub other : (c p : ℕ) → h c < K.cap c → Yields K h c p → p ≢ c
  other c p room y e =
      grind (arith, e, room, y.0.beyond, y.1, no_rise K c (h c) (h c + 1))
