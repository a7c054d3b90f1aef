-- Tests one after another, of which the first that separates decides, are a strict weak order if each of them is.
use Rattle.std.proofs.Common.{◌≡◌, true, false, List, [], ◌∷◌, refl, arith}
use Rattle.rules.specs.Rank.{Bid, Test, ranks}

-- Who wins does not lose. Among the bids that P holds of, who does not win against the next of three in a row, nor the
-- next against the last, does not win against the last.
pub record Weak (P : Bid → Type 0) (t : Test) : Type 0 where
  pub asym : (a b : Bid) → t a b ≡ true → t b a ≡ false
  pub past : (a b c : Bid) → P a → P b → P c → t a b ≡ false → t b c ≡ false → t a c ≡ false

abbrev pub Each : (P : Bid → Type 0) → List Test → Type 0
Each P [] = Unit {0}
Each P (t ∷ ts) = Weak P t × Each P ts

pub ranks_asym : (P : Bid → Type 0) (ts : List Test) → Each P ts → (a b : Bid) →
    ranks ts a b ≡ true → ranks ts b a ≡ false
unfolding ranks
ranks_asym P [] w a b h = refl
ranks_asym P (t ∷ ts) w a b h =
    let s = w.0.asym a b in
    let r = ranks_asym P ts w.1 a b in
    grind (arith, s, r)

pub ranks_past : (P : Bid → Type 0) (ts : List Test) → Each P ts → (a b c : Bid) → P a → P b → P c →
    ranks ts a b ≡ false → ranks ts b c ≡ false → ranks ts a c ≡ false
unfolding ranks
ranks_past P [] w a b c pa pb pc h k = refl
ranks_past P (t ∷ ts) w a b c pa pb pc h k =
    let u = w.0.past a b c pa pb pc in
    let v = w.0.past c a b pc pa pb in
    let x = w.0.past b c a pb pc pa in
    let r = ranks_past P ts w.1 a b c pa pb pc in
    grind (arith, u, v, x, r)
