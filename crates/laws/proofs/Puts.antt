-- What is kept by number, with one thing replaced.
use Rattle.std.proofs.Common.{◌≡◌, ℕ, ◌+◌, ◌≢◌, sym, ap, subst, inl, inr, arith}
use Rattle.std.proofs.lemmas.Bool.{cases_eq}
use Rattle.std.proofs.lemmas.Bool.Decides.{nat_tests}
use Rattle.laws.specs.ByNumber.{total, Numbered, put}
use Rattle.laws.proofs.Sums.{upto_changed}

-- what holds at c, and at all others, holds everywhere
pub each_but : (c : ℕ) (P : ℕ → Type 0) → P c → ((d : ℕ) → d ≢ c → P d) → (d : ℕ) → P d
each_but c P a b d = elim (cases_eq d c) [ inl e ↦ subst P (sym e) a | inr e ↦ b d e ]

pub each_but_two : (c p : ℕ) (P : ℕ → Type 0) → P c → P p → ((d : ℕ) → d ≢ c → d ≢ p → P d) → (d : ℕ) → P d
each_but_two c p P a b o = each_but c P a (λ d e. elim (cases_eq d p) [ inl f ↦ subst P (sym f) b | inr f ↦ o d e f ])

module _ {A : Type 0} (f : ℕ → A) (c : ℕ) (x : A) where
  pub put_at : put f c x c ≡ x
  unfolding put
  put_at = grind (arith, nat_tests)

  pub put_off : (d : ℕ) → d ≢ c → put f c x d ≡ f d
  unfolding put
  put_off d ne = grind (arith, nat_tests)

  pub put_each : (P : ℕ → A → Type 0) → P c x → ((d : ℕ) → d ≢ c → P d (f d)) → (d : ℕ) → P d (put f c x d)
  put_each P a b = each_but c (λ d. P d (put f c x d)) (rw put_at a) (λ d ne. rw (put_off d ne) (b d ne))

  pub put_sum : (g : A → ℕ) → Numbered c → total (λ d. g (put f c x d)) + g (f c) ≡ total (λ d. g (f d)) + g x
  put_sum g i = rw put_at at (upto_changed 256 (λ d. g (put f c x d)) (λ d. g (f d)) c i (λ d ne. ap g (put_off d ne)))
