-- Stacks by links: how high they are, and what a write to one link leaves of them.
use Rattle.std.proofs.Common.{◌≡◌, ℕ, zero, suc, ◌+◌, ◌≤◌, cond, eqb, List, [], ◌∷◌, length, get_or, set, sym, refl, ap, ◌∙◌, subst, inl, inr, arith}
use Rattle.std.specs.Prelude.{count_by}
use Rattle.std.proofs.lemmas.List.{get_or-set_other, get_or_past}
use Rattle.std.proofs.lemmas.List.Sums.{sum_by-cons}
use Rattle.std.proofs.lemmas.Bool.{cases_eq}
use Rattle.std.proofs.lemmas.Bool.Decides.{nat_tests}
use Rattle.ledger.specs.Links.{down, empty, stack}
use Rattle.ledger.specs.declared.ledger.Stack.{Stack}

length_down : (below : List ℕ) (f n : ℕ) → length (down below f n) ≡ n
length_down below f zero = refl
length_down below f (suc n) = ap suc (length_down below (get_or below f 0) n)

pub length_stack : (below : List ℕ) (begun : List Stack) (o : ℕ) → length (stack below begun o) ≡ (get_or begun o empty).len
unfolding stack
length_stack below begun o = length_down below (get_or begun o empty).top (get_or begun o empty).len

pub stack_none : (below : List ℕ) (begun : List Stack) (o : ℕ) → (get_or begun o empty).len ≡ 0 → stack below begun o ≡ []
unfolding stack
stack_none below begun o e = ap (down below (get_or begun o empty).top) e

-- who has no place has no stack
pub stack_past : (below : List ℕ) (begun : List Stack) (o : ℕ) → length begun ≤ o → stack below begun o ≡ []
stack_past below begun o h = stack_none below begun o (ap (λ s. s.len) (get_or_past begun o empty h))

-- how often a frame lies in a stack
abbrev pub times : ℕ → List ℕ → ℕ
times f xs = count_by (λ g. eqb f g) xs

pub times_cons : (f g : ℕ) (xs : List ℕ) → times f (g ∷ xs) ≡ cond (eqb f g) 1 0 + times f xs
times_cons f g xs = sum_by-cons (λ x. cond (eqb f x) 1 0) g xs

pub times_here : (f : ℕ) (xs : List ℕ) → times f (f ∷ xs) ≡ 1 + times f xs
times_here f xs = times_cons f f xs ∙ grind (arith, nat_tests)

times_other : (f x : ℕ) (xs : List ℕ) → (f ≡ x → ⊥) → times f (x ∷ xs) ≡ times f xs
times_other f x xs d = times_cons f x xs ∙ grind (arith, nat_tests)

-- a link that is not passed may change
pub down_apart : (below : List ℕ) (f v g n : ℕ) → times f (down below g n) ≡ 0 → down (set below f v) g n ≡ down below g n
down_apart below f v g zero h = refl
down_apart below f v g (suc n) h =
    let rest : List ℕ = down below (get_or below g 0) n in
    elim (cases_eq f g) [
      | inl e ↦ absurd (omega (arith, times_here g rest, subst (λ z. times z (g ∷ rest) ≡ 0) e h))
      | inr d ↦ ap (λ l. g ∷ l) (ap (λ z. down (set below f v) z n) (get_or-set_other below f g v 0 (λ e. d (sym e))) ∙ down_apart below f v (get_or below g 0) n (sym (times_other f g rest d) ∙ h))
    ]
