-- In a stretch of asks, what a client has lost it never gets back: peak c is the most that c has held in the stretch.
use Rattle.std.proofs.Common.{◌≡◌, ℕ, ◌+◌, ◌<◌, ◌≤◌, false, ◌≢◌, refl, ap, inl, inr, arith}
use Rattle.laws.specs.ByNumber.{total, Numbered, put}
use Rattle.laws.proofs.Puts.{each_but_two, put_at, put_off, put_each, put_sum}
use Rattle.laws.proofs.Contest.{Contest, Can, no_rise}
use Rattle.laws.proofs.Payer.{Yields}

-- the peaks, with one higher by one
abbrev pub raise : ℕ → (ℕ → ℕ) → ℕ → ℕ
raise c peak = put peak c (peak c + 1)

pub raise_sum : (c : ℕ) (peak : ℕ → ℕ) → Numbered c → total (raise c peak) ≡ total peak + 1
raise_sum c peak i = omega (arith, put_sum peak c (peak c + 1) (λ n. n) i)

module _ (K : Contest) where
  pub record Peaks (h : ℕ → ℕ) (free : ℕ) (peak : ℕ → ℕ) : Type 0 where
    pub held : (c : ℕ) → h c ≤ peak c
    pub fits : (c : ℕ) → peak c ≤ K.cap c
    pub none_free : (c : ℕ) → h c < peak c → free ≡ 0
    pub kept : (c : ℕ) → h c < peak c → K.low c ≤ h c
    pub lost : (c : ℕ) → h c < peak c → (d : ℕ) → K.low d < h d → K.over c (h c + 1) d (h d) ≡ false

  pub peaks_start : (h : ℕ → ℕ) (free : ℕ) → ((c : ℕ) → h c ≤ K.cap c) → Peaks h free h
  peaks_start h free f =
      record { held = omega arith; fits = f; none_free = λ c k. omega arith; kept = λ c k. omega arith; lost = λ c k d g. absurd (omega arith) }

  -- c gets a free frame
  pub peaks_free : (h o : ℕ → ℕ) (free left : ℕ) (peak : ℕ → ℕ) (c : ℕ) → Peaks h free peak → h c < K.cap c → 1 ≤ free →
      o c ≡ h c + 1 → ((d : ℕ) → d ≢ c → o d ≡ h d) → Peaks o left (raise c peak)
  peaks_free h o free left peak c t room some at off =
      record {
        held = λ d. omega (arith, same d);
        fits = put_each peak c (peak c + 1) (λ d n. n ≤ K.cap d) (omega (arith, level c)) (λ d e. t.fits d);
        none_free = λ d k. absurd (omega (arith, same d));
        kept = λ d k. absurd (omega (arith, same d));
        lost = λ d k. absurd (omega (arith, same d));
      }
    where
      level : (d : ℕ) → h d ≡ peak d
      level d = grind (arith, t.held d, t.none_free d)

      same : (d : ℕ) → o d ≡ raise c peak d
      same = put_each peak c (peak c + 1) (λ d n. o d ≡ n) (omega (arith, at, level c)) (λ d e. omega (arith, off d e, level d))

  -- c gets a frame of p
  pub peaks_take : (h o : ℕ → ℕ) (peak : ℕ → ℕ) (c p : ℕ) → Peaks h 0 peak → h c < K.cap c → Yields K h c p →
      o c ≡ h c + 1 → o p + 1 ≡ h p → ((d : ℕ) → d ≢ c → d ≢ p → o d ≡ h d) → Peaks o 0 (raise c peak)
  peaks_take h o peak c p t room y at from off =
      record {
        held = each_but_two c p (λ d. o d ≤ raise c peak d) (omega (arith, at_c, t.held c)) (omega (arith, t.held p, at_p)) (λ d e f. omega (arith, off d e f, off_c d e, t.held d));
        fits = put_each peak c (peak c + 1) (λ d n. n ≤ K.cap d) (omega (arith, level)) (λ d e. t.fits d);
        none_free = λ d k. refl;
        kept = each_but_two c p (λ d. o d < raise c peak d → K.low d ≤ o d) (λ k. absurd (omega (arith, at_c, level))) (λ k. omega (arith, y.0.beyond))
            (λ d e f k. omega (arith, off d e f, off_c d e, t.kept d));
        lost = each_but_two c p (λ d. o d < raise c peak d → (x : ℕ) → K.low x < o x → K.over d (o d + 1) x (o x) ≡ false) (λ k. absurd (omega (arith, at_c, level)))
            (λ k. rw from under)
            (λ d e f k x g. rw (off d e f) (K.past d (h d + 1) p (h p) x (o x)
            (omega (arith, off d e f, off_c d e, t.fits d)) can_p (can x g)
            (t.lost d (omega (arith, off d e f, off_c d e)) p y.0.beyond) (under x g)));
      }
    where
      level : h c ≡ peak c
      level =
          let lost : h c < peak c → K.over c (h c + 1) p (h p) ≡ false = λ k. t.lost c k p y.0.beyond in
          grind (arith, t.held c, t.kept c, lost, y.1)

      apart : p ≢ c
      apart e = omega (arith, ap h e, ap o e)

      at_c : raise c peak c ≡ peak c + 1
      at_c = put_at peak c (peak c + 1)

      off_c : (d : ℕ) → d ≢ c → raise c peak d ≡ peak d
      off_c d e = put_off peak c (peak c + 1) d e

      at_p : raise c peak p ≡ peak p
      at_p = off_c p apart

      can_p : Can K.cap p (h p)
      can_p = omega (arith, y.0.beyond, t.held p, t.fits p)

      can : (d : ℕ) → K.low d < o d → Can K.cap d (o d)
      can = each_but_two c p (λ d. K.low d < o d → Can K.cap d (o d)) (λ g. omega arith) (λ g. omega (arith, can_p)) (λ d e f g. omega (arith, off d e f, t.held d, t.fits d))

      -- what p has lost ranks above nothing that is held beyond a minimum
      under : (d : ℕ) → K.low d < o d → K.over p (h p) d (o d) ≡ false
      under = each_but_two c p (λ d. K.low d < o d → K.over p (h p) d (o d) ≡ false)
          (λ g. rw at (K.asym c (h c + 1) p (h p) (omega arith) can_p (elim y.1 [ inl u ↦ absurd (omega arith) | inr x ↦ x ])))
          (λ g. no_rise K p (o p) (h p) (omega arith) (omega arith) (omega (arith, can_p)))
          (λ d e f g. rw (off d e f) (y.0.lowest d (omega (arith, off d e f))))
