-- Refusals cited by name: what a list says of its entry with a given refusal, which computing finds by its place.
use Rattle.std.proofs.Common.{ℕ, ◌<◌, ◌≤◌, Bool, true, false, eqb, List, [], ◌∷◌, ◌++◌, sym, ap, inl, inr, arith}
use Rattle.std.proofs.lemmas.Bool.{eq-eqb, ne_eqb}
use Rattle.rules.specs.Numbers.{Refusal, place}
use Rattle.rules.specs.Refusals.{Entry, First, Clear, From, Rising}

-- one claim or another, by a test
abbrev pub Choice : Bool → Type 0 → Type 0 → Type 0
Choice true A B = A
Choice false A B = B

-- the entry of a list with this refusal is met; no list meets a refusal that it does not have
abbrev pub When : List Entry → Refusal → Type 0
When [] r = ⊥
When (e ∷ es) r = Choice (eqb (place e.refusal) (place r)) e.when (When es r)

neither : (q : Bool) (A B : Type 0) → (A → ⊥) → (B → ⊥) → Choice q A B → ⊥
neither true A B f g h = f h
neither false A B f g h = g h

-- where no entry is met, the one with a given refusal is not
pub cleared : (es : List Entry) (r : Refusal) → Clear es → When es r → ⊥
cleared [] r c w = w
cleared (e ∷ es) r c w = neither (eqb (place e.refusal) (place r)) e.when (When es r) c.0 (cleared es r c.1) w

-- the first entry met is past n, and is the one with its refusal
met_past : (n : ℕ) (es : List Entry) (r : Refusal) → From n es → First es r → (n < place r) × When es r
met_past n [] r f h = absurd h
met_past n (e ∷ es) r f (inl (w, s)) = (rw s f.0, rw (eq-eqb (place e.refusal) (place r) (ap place (sym s))) w)
met_past n (e ∷ es) r f (inr (_, h)) =
    let (far, w) = met_past (place e.refusal) es r f.1 h in
    (omega (arith, f.0), rw (ne_eqb (place e.refusal) (place r) (λ s. omega (arith, s, far))) w)

pub met : (es : List Entry) (r : Refusal) → Rising es → First es r → When es r
met es r f h = (met_past 0 es r f h).1

-- no entry is met that stands before the first one met
none_before : (n : ℕ) (es : List Entry) (q : Refusal) → From n es → place q ≤ n → When es q → ⊥
none_before n [] q f l w = w
none_before n (e ∷ es) q f l w =
    let apart = ne_eqb (place e.refusal) (place q) (λ s. omega (arith, s, f.0)) in
    none_before (place e.refusal) es q f.1 (omega (arith, f.0)) (rw apart at w)

unmet_past : (n : ℕ) (es : List Entry) (r q : Refusal) → From n es → First es r → place q < place r → When es q → ⊥
unmet_past n [] r q f h l w = h
unmet_past n (e ∷ es) r q f (inl (_, s)) l w =
    let before : place q < place e.refusal = omega (arith, ap place s) in
    none_before (place e.refusal) es q f.1 (omega arith) (rw (ne_eqb (place e.refusal) (place q) (λ t. omega arith)) at w)
unmet_past n (e ∷ es) r q f (inr (not, h)) l w =
    neither (eqb (place e.refusal) (place q)) e.when (When es q) not (unmet_past (place e.refusal) es r q f.1 h l) w

pub unmet : (es : List Entry) (r q : Refusal) → Rising es → First es r → place q < place r → When es q → ⊥
unmet es r q f h l w = unmet_past 0 es r q f h l w

-- of two lists in a row: where the first meets nothing, the second decides
pub first_after : (es fs : List Entry) (r : Refusal) → Clear es → First fs r → First (es ++ fs) r
first_after [] fs r c h = h
first_after (e ∷ es) fs r c h = inr (c.0, first_after es fs r c.1 h)

pub clear_after : (es fs : List Entry) → Clear es → Clear fs → Clear (es ++ fs)
clear_after [] fs c d = d
clear_after (e ∷ es) fs c d = (c.0, clear_after es fs c.1 d)

pub first_rest : (es fs : List Entry) (r : Refusal) → Clear es → First (es ++ fs) r → First fs r
first_rest [] fs r c h = h
first_rest (e ∷ es) fs r c (inl (w, s)) = absurd (c.0 w)
first_rest (e ∷ es) fs r c (inr (not, h)) = first_rest es fs r c.1 h
