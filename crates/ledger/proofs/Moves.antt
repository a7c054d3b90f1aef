-- A frame goes from the top of one stack to the top of another.
use Rattle.std.proofs.Common.{◌≡◌, ℕ, suc, ◌+◌, ◌-◌, ◌<◌, ◌≤◌, cond, eqb, List, ◌∷◌, length, get_or, set, ◌≢◌, sym, ap, ◌∙◌, add-one, arith}
use Rattle.std.proofs.lemmas.List.{get_or-set_same, get_or-set_other, length-set}
use Rattle.std.proofs.lemmas.List.Sums.{sum_by-set}
use Rattle.std.proofs.lemmas.Bool.Decides.{nat_tests}
use Rattle.ledger.specs.Stacks.{Once, Moved}
use Rattle.ledger.specs.Links.{down, empty, stack, together}
use Rattle.ledger.specs.Ledgers.{stack_of}
use Rattle.ledger.specs.declared.ledger.Ledger.{Ledger}
use Rattle.ledger.specs.declared.ledger.Stack.{Stack}
use Rattle.ledger.proofs.Sums.{one_in, two_in, shifted}
use Rattle.ledger.proofs.Downs.{times, times_cons, times_here, length_stack, down_apart}
use Rattle.ledger.proofs.Ledgers.{no_owner, owner_of_some}

-- every frame stays in one stack, once
moved_once : (s t : ℕ → List ℕ) (n F from to f : ℕ) → from < n → to < n → (from ≡ to → ⊥) → Moved s t from to f → Once s n F → Once t n F
moved_once s t n F from to f lf lt d m once q =
    shifted (λ o. times q (s o)) n from lf to lt d (λ o. times q (t o)) (cond (eqb q f) 1 0) (ap (times q) m.taken ∙ times_cons q f (t from)) (ap (times q) m.given ∙ times_cons q f (s to)) (λ o a b. ap (times q) (m.others o a b)) ∙ once q

-- the frame on top of a stack
module _ (v : Ledger) (from : ℕ) (high : 0 < length (stack_of v from)) where
  is : from < 257
  is = owner_of_some v from high

  abbrev giver : Stack
  giver = get_or v.stacks from empty

  abbrev pub frame : ℕ
  frame = giver.top

  abbrev lighter : Stack
  lighter = record { top = get_or v.below frame 0; len = giver.len - 1 }

  pub len_taken : 1 ≤ giver.len
  len_taken = omega (arith, length_stack v.below v.stacks from, high)

  rest : List ℕ
  rest = down v.below lighter.top lighter.len

  taken : stack_of v from ≡ frame ∷ rest
  unfolding stack rest
  taken = ap (down v.below frame) (let h = len_taken in let e : giver.len ≡ suc (giver.len - 1) = omega arith in e)

  here : times frame (stack_of v from) ≡ 1 + times frame rest
  here = ap (times frame) taken ∙ times_here frame rest

  -- how often it lies in each stack
  abbrev counts : ℕ → ℕ
  counts o = times frame (stack_of v o)

  pub frame_linked : frame < 4097
  frame_linked = grind (arith, nat_tests, one_in counts 257 from is, here, v.once frame, v.few)

  not_under : times frame rest ≡ 0
  not_under = grind (arith, nat_tests, one_in counts 257 from is, here, v.once frame)

  gone : (o : ℕ) → (o ≡ from → ⊥) → times frame (stack_of v o) ≡ 0
  gone o apart =
      grind (arith, nat_tests, two_in counts 257 from is o, here, v.once frame, no_owner v o)

  -- it is put on top of another stack
  module _ (to : ℕ) (fits : to < 257) (other : from ≢ to) where
    abbrev taker : Stack
    taker = get_or v.stacks to empty

    abbrev pub below' : List ℕ
    below' = set v.below frame taker.top

    abbrev heavier : Stack
    heavier = record { top = frame; len = taker.len + 1 }

    abbrev given : List Stack
    given = set v.stacks from lighter

    abbrev pub stacks' : List Stack
    stacks' = set given to heavier

    back : to ≡ from → ⊥
    back e = other (sym e)

    from_place : from < length v.stacks
    from_place = omega (arith, is, v.owners)

    to_place : to < length given
    to_place = omega (arith, fits, length-set v.stacks from lighter, v.owners)

    at_from : get_or stacks' from empty ≡ lighter
    at_from = get_or-set_other given to from heavier empty other ∙ get_or-set_same v.stacks from lighter empty from_place

    elsewhere : (o : ℕ) → (o ≡ from → ⊥) → (o ≡ to → ⊥) → get_or stacks' o empty ≡ get_or v.stacks o empty
    elsewhere o nf nt = get_or-set_other given to o heavier empty nt ∙ get_or-set_other v.stacks from o lighter empty nf

    -- what passes the moved frame nowhere is as it was
    passed_by : (s : Stack) → times frame (down v.below s.top s.len) ≡ 0 → down below' s.top s.len ≡ down v.below s.top s.len
    passed_by s h = down_apart v.below frame taker.top s.top s.len h

    pub moved : Moved (stack_of v) (stack below' stacks') from to frame
    unfolding stack rest
    moved = record {
      taken = taken ∙ ap (λ l. frame ∷ l) (sym (ap (λ s. down below' s.top s.len) at_from ∙ passed_by lighter not_under));
      given = ap (λ s. down below' s.top s.len) (get_or-set_same given to heavier empty to_place) ∙ ap (down below' frame) (add-one taker.len)
          ∙ ap (λ l. frame ∷ l) (ap (λ z. down below' z taker.len) (get_or-set_same v.below frame taker.top 0 (omega (arith, frame_linked, v.links))) ∙ passed_by taker (gone to back));
      others = λ o nf nt. ap (λ s. down below' s.top s.len) (elsewhere o nf nt) ∙ passed_by (get_or v.stacks o empty) (gone o nf);
    }

    together_kept : together stacks' ≡ v.frames
    together_kept =
        omega (
          arith,
          v.all,
          sum_by-set (λ s. s.len) v.stacks from lighter empty from_place,
          sum_by-set (λ s. s.len) given to heavier empty to_place,
          ap (λ s. s.len) (get_or-set_other v.stacks from to lighter empty back),
          len_taken,
        )

    -- what a ledger always keeps
    pub kept : (length stacks' ≡ 257) × (length below' ≡ 4097) × (together stacks' ≡ v.frames) × Once (stack below' stacks') 257 v.frames
    kept = (
      length-set given to heavier ∙ length-set v.stacks from lighter ∙ v.owners,
      length-set v.below frame taker.top ∙ v.links,
      together_kept,
      moved_once (stack_of v) (stack below' stacks') 257 v.frames from to frame is fits other moved v.once,
    )

-- who gives a frame is an owner, and its stack and the frame are in their ranges
pub ruleset of_giver = (owner_of_some, frame_linked, len_taken)
