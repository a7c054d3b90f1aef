-- Lines, cut one after the other.
use Rattle.std.proofs.Common.{◌≡◌, ◌≢◌, ℕ, zero, suc, ◌+◌, ◌-◌, ◌<◌, min, List, [], ◌∷◌, ◌++◌, length, get_or, take, drop, sym, refl, ap, ◌∙◌, arith, add-one}
use Rattle.std.proofs.Math.Seq.{split_at}
use Rattle.std.proofs.lemmas.List.{length-append, take_rest, take_min, drop_all}
use Rattle.events.specs.Input.{NoNewline, IsCutInto, CutsOff, none, at_newline, at_end}

-- none of the first n bytes is a newline
pub no_newline : (n : ℕ) (text : List ℕ) → ((k : ℕ) → k < n → k < length text → get_or text k 0 ≢ 10) → NoNewline (take n text)
no_newline zero text h = tt
no_newline (suc n) [] h = tt
no_newline (suc n) (b ∷ text) h = (h 0 (omega arith) (omega arith), no_newline n text (λ k before within. h (suc k) (omega arith) (omega arith)))

-- the line up to a newline, and what is behind the newline
pub ended_line : (text : List ℕ) (n : ℕ) → n < length text → NoNewline (take n text) → get_or text n 0 ≡ 10 →
    CutsOff (take (length text - (n + 1)) (drop (n + 1) text)) text (take n text ∷ [])
ended_line text n h plain newline =
    let split : text ≡ take n text ++ 10 ∷ drop (n + 1) text = rw add-one (rw newline at (split_at text n 0 h)) in
    at_newline split plain (none (sym (take_rest text (n + 1))))

-- the text after the last newline
pub last_line : (text : List ℕ) → 0 < length text → NoNewline text → CutsOff (take (length text - length text) (drop (length text) text)) text (text ∷ [])
last_line text some plain =
    at_end (λ none. omega (arith, ap length none)) plain (take_rest text (length text) ∙ drop_all (length text) text (omega arith))

-- of a line its first 80 bytes
pub line_head : (line : List ℕ) (k : ℕ) → k ≡ min (length line) 80 → take k line ≡ take 80 line
line_head line k e =
    let least : k ≡ min 80 (length line) = omega arith in rw (least, take_min)

-- lines after lines
nothing_behind : (left : List ℕ) (lines : List (List ℕ)) → CutsOff left [] lines → (lines ≡ []) × (left ≡ [])
nothing_behind left lines (none e) = (refl, sym e)
nothing_behind left lines (at_newline {line} {behind} {lines = more} e plain cuts) = absurd (omega (arith, ap length e, length-append line (10 ∷ behind)))
nothing_behind left lines (at_end some plain e) = absurd (some refl)

pub cuts_on : (mid left : List ℕ) (more : List (List ℕ)) (input : List ℕ) (lines : List (List ℕ)) → CutsOff mid input lines → CutsOff left mid more → CutsOff left input (lines ++ more)
cuts_on mid left more input lines (none e) cuts = rw e cuts
cuts_on mid left more input lines (at_newline {line} {behind} {lines = rest} e plain first) cuts = at_newline e plain (cuts_on mid left more behind rest first cuts)
cuts_on mid left more input lines (at_end some plain e) cuts =
    let end = nothing_behind left more (rw e at cuts) in rw end.0 (at_end some plain end.1)

-- there is one way to cut an input
newline_within : (text line behind : List ℕ) → text ≡ line ++ 10 ∷ behind → NoNewline text → ⊥
newline_within [] line behind e plain = omega (arith, ap length e, length-append line (10 ∷ behind))
newline_within (b ∷ text) [] behind e plain = plain.0 cc
newline_within (b ∷ text) (x ∷ line) behind e plain = newline_within text line behind (cc) plain.1

one_line : (line other behind rest : List ℕ) → NoNewline line → NoNewline other → line ++ 10 ∷ behind ≡ other ++ 10 ∷ rest → (line ≡ other) × (behind ≡ rest)
one_line [] [] behind rest p q e = (refl, cc)
one_line [] (y ∷ other) behind rest p q e = absurd (q.0 cc)
one_line (x ∷ line) [] behind rest p q e = absurd (p.0 cc)
one_line (x ∷ line) (y ∷ other) behind rest p q e =
    let tails : line ++ 10 ∷ behind ≡ other ++ 10 ∷ rest = cc in
    let same = one_line line other behind rest p.1 q.1 tails in
    let lines_same = same.0 in
    (cc, same.1)

pub one_cut : (input : List ℕ) (lines others : List (List ℕ)) → IsCutInto input lines → IsCutInto input others → lines ≡ others
one_cut input lines others (none e) cuts = sym (nothing_behind [] others (rw e at cuts)).0
one_cut input lines others (at_end some plain e) (none f) = absurd (some f)
one_cut input lines others cuts (none e) = (nothing_behind [] lines (rw e at cuts)).0
one_cut input lines others (at_newline {line} {behind} {lines = more} e plain first) (at_newline {line = other} {behind = rest} {lines = ms} f pl second) =
    let same = one_line line other behind rest plain pl (sym e ∙ f) in
    let rest_same = one_cut behind more ms first (rw (← same.1) at second) in
    let lines_same = same.0 in
    cc
one_cut input lines others (at_newline {line} {behind} e plain first) (at_end some pl f) = absurd (newline_within input line behind e pl)
one_cut input lines others (at_end some plain e) (at_newline {line} {behind} f pl second) = absurd (newline_within input line behind f plain)
one_cut input lines others (at_end some plain e) (at_end some' pl f) = refl
