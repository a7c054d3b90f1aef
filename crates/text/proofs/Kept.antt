-- A text that grows piece by piece, each time cut at 128 bytes, is what it would be had the whole been cut once.
use Rattle.std.proofs.Common.{◌≡◌, ℕ, ◌+◌, ◌≤◌, min, List, ◌++◌, length, take, sym, ap, ◌∙◌, append-nil, append_assoc, inl, inr, arith}
use Rattle.std.proofs.lemmas.Bool.{cases_lt}
use Rattle.std.proofs.lemmas.List.{length-take-le, take_all, take_min, take-take, take-append-le}
use Rattle.std.proofs.Math.Seq.{take-append-add}
use Rattle.text.specs.Texts.{kept}

-- what fits is kept whole
pub kept_short : (bs : List ℕ) → length bs ≤ 128 → kept bs ≡ bs
unfolding kept
kept_short bs h = take_all 128 bs h

-- to cut before more comes and again changes nothing
pub kept_kept : (bs more : List ℕ) → kept (kept bs ++ more) ≡ kept (bs ++ more)
unfolding kept
kept_kept bs more =
    elim (cases_lt (length bs) 128) [
      | inl h ↦ rw (take_all 128 bs (omega arith))
      | inr h ↦ rw (take-append-le 128 bs more h, take-append-le 128 (take 128 bs) more (omega (arith, length-take-le 128 bs h))) (take-take 128 128 bs (omega arith))
    ]

-- as many bytes more as there is room for
pub room_kept : (bs more : List ℕ) (room k : ℕ) → room + length bs ≡ 128 → k ≡ min (length more) room → bs ++ take k more ≡ kept (bs ++ more)
unfolding kept
room_kept bs more room k h e =
    let least : k ≡ min room (length more) = omega arith in
    let all : 128 ≡ length bs + room = omega arith in
    rw (least, take_min) (sym (ap (λ n. take n (bs ++ more)) all ∙ take-append-add bs more room))

-- what is wanted of a text that is put together from pieces
pub ruleset joined = (kept_kept, kept_short, append_assoc, append-nil)
