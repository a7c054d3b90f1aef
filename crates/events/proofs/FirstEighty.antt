-- The first 80 bytes of a line decide its verdict: no good line is longer than 56 bytes, and every fault shows before.
use Rattle.std.proofs.Common.{◌≡◌, ℕ, zero, suc, ◌-◌, ◌*◌, ◌^◌, ◌<◌, ◌≤◌, List, [], ◌∷◌, ◌++◌, length, take, Ok, Err, decimal, Result, sym, refl, ap, ◌∙◌, arith}
use Rattle.std.specs.List.{flat_map, AllByRecursion}
use Rattle.std.proofs.lemmas.Fmt.{length-decimal-le}
use Rattle.std.proofs.lemmas.List.{length-append, length-take, nil_from_length, take_all}
use Rattle.rules.specs.declared.refusal.Fault.{Fault}
use Rattle.rules.specs.declared.refusal.Refusal.{Refusal}
use Rattle.events.specs.declared.word.Due.TheVariants as due
use Rattle.events.specs.Grammar.{EventKind, letter, number_count, NoDigit, spaced, line_of, IsMissing}
use Rattle.events.specs.Events.{Event, event_kind, event_line, event_numbers, IsSized}
use Rattle.events.specs.Faults.{Begins, LastStops, FirstFault, no_letter, no_space, no_number, no_end, Verdict}
use Rattle.events.proofs.OneVerdict.{numbers_counted}
use Rattle.events.proofs.ReaderFaults.{count_few}

-- two texts whose first w bytes are the same
abbrev Alike : ℕ → List ℕ → List ℕ → Type 0
Alike w xs ys = take w xs ≡ take w ys

-- what follows a piece that both texts begin with
record Follows (w : ℕ) (piece rest ys : List ℕ) : Type 0 where
  more : List ℕ
  whole : ys ≡ piece ++ more
  alike : Alike (w - length piece) rest more

follow : (w : ℕ) (piece rest ys : List ℕ) → length piece ≤ w → Alike w (piece ++ rest) ys → Follows w piece rest ys
follow w [] rest ys h a = let all : w - 0 ≡ w = omega arith in record { more = ys; whole = refl; alike = rw all a }
follow zero (b ∷ piece) rest ys h a = absurd (omega arith)
follow (suc w) (b ∷ piece) rest [] h a = cc
follow (suc w) (b ∷ piece) rest (y ∷ ys) h a =
    let tails : Alike w (piece ++ rest) ys = cc in
    let f = follow w piece rest ys (omega arith) tails in
    let tail = f.whole in
    let left : suc w - suc (length piece) ≡ w - length piece = omega arith in
    record { more = f.more; whole = cc; alike = rw left f.alike }

-- what follows a piece that begins one of two such texts
follows_too : (w : ℕ) (piece rest xs ys : List ℕ) → length piece ≤ w → Alike w xs ys → ys ≡ piece ++ rest → Follows w piece rest xs
follows_too w piece rest xs ys h a e = follow w piece rest xs h (rw e at (sym a))

no_digit_alike : (w : ℕ) (xs ys : List ℕ) → 0 < w → Alike w xs ys → NoDigit xs → NoDigit ys
no_digit_alike w xs [] h a n = tt
no_digit_alike zero xs (y ∷ ys) h a n = absurd (omega arith)
no_digit_alike (suc w) [] (y ∷ ys) h a n = cc
no_digit_alike (suc w) (x ∷ xs) (y ∷ ys) h a n = let same : x ≡ y = cc in rw same at n

length_spaced : (n : ℕ) → n < 2 ^ 32 → length (spaced n) ≤ 11
length_spaced n small = omega (arith, length-decimal-le 10 n (omega arith) (omega arith) (omega arith))

pub length_spaced_numbers : (ns : List ℕ) → AllByRecursion (λ n. n < 2 ^ 32) ns → length (flat_map spaced ns) ≤ 11 * length ns
length_spaced_numbers [] s = omega arith
length_spaced_numbers (n ∷ ns) s =
    omega (arith, length-append (spaced n) (flat_map spaced ns), length_spaced n s.0, length_spaced_numbers ns s.1)

-- a letter and its numbers, as both lines have them: room is left for a space and a number
record BothBegin (k : EventKind) (ns rest m : List ℕ) : Type 0 where
  more : List ℕ
  begins : Begins m k ns more
  alike : Alike (80 - length (line_of k ns)) rest more
  wide : 12 < 80 - length (line_of k ns)

stops_alike : (w : ℕ) (ns xs ys : List ℕ) → 0 < w → Alike w xs ys → LastStops ns xs → LastStops ns ys
stops_alike w [] xs ys h a e = tt
stops_alike w (n ∷ ns) xs ys h a e = no_digit_alike w xs ys h a e

both_begin : (l m : List ℕ) (k : EventKind) (ns rest : List ℕ) → Alike 80 l m → Begins l k ns rest → length ns ≤ number_count k → BothBegin k ns rest m
both_begin l m k ns rest a b few =
    let wide : 12 < 80 - length (line_of k ns) = omega (arith, length_spaced_numbers ns b.sized, count_few k) in
    let f = follow 80 (line_of k ns) rest m (omega arith) (rw b.whole at a) in
    record {
      more = f.more;
      begins = record { whole = f.whole; sized = b.sized; stops = stops_alike _ ns rest f.more (omega arith) f.alike b.stops };
      alike = f.alike;
      wide = wide;
    }

number_alike : (w : ℕ) (xs ys : List ℕ) → 11 < w → Alike w xs ys → IsMissing due.Number xs → IsMissing due.Number ys
number_alike w xs ys h a missing n more small e stops =
    let short = length_spaced n small in
    let f = follows_too w (decimal n) more xs ys (omega arith) a e in
    missing n f.more small f.whole (no_digit_alike (w - length (decimal n)) more f.more (omega arith) f.alike stops)

fault_alike : (l m : List ℕ) (f : Fault) → Alike 80 l m → FirstFault l f → FirstFault m f
fault_alike l m f a (no_letter missing) =
    no_letter (λ k more e. let f = follows_too 80 (letter k ∷ []) more l m (omega arith) a e in missing k f.more f.whole)
fault_alike l m f a (no_space {k} {ns} {rest} begins few missing) =
    let b = both_begin l m k ns rest a begins (omega arith) in
    no_space b.begins few (λ more e. let f = follows_too _ (32 ∷ []) more rest b.more (omega (arith, b.wide)) b.alike e in missing f.more f.whole)
fault_alike l m f a (no_number {k} {ns} {rest} begins few missing) =
    let b = both_begin l m k ns (32 ∷ rest) a begins (omega arith) in
    let after = follow (80 - length (line_of k ns)) (32 ∷ []) rest b.more (omega (arith, b.wide)) b.alike in
    no_number (rw after.whole at b.begins) few (number_alike _ rest after.more (omega (arith, b.wide)) after.alike missing)
fault_alike l m f a (no_end {k} {ns} {rest} begins all more) =
    let b = both_begin l m k ns rest a begins (omega arith) in
    no_end b.begins all (λ none. more (nil_from_length rest (omega (arith, b.wide, ap length (rw none at b.alike), length-take {A = ℕ}))))

pub length_event_line : (e : Event) → IsSized e → length (event_line e) ≤ 56
length_event_line e sized = omega (arith, length_spaced_numbers (event_numbers e) sized, numbers_counted e, count_few (event_kind e))

pub first_80_decide : (l m : List ℕ) (r : Result Event Refusal) → take 80 m ≡ take 80 l → Verdict l r → Verdict m r
first_80_decide l m (Ok e) a v =
    let fits : length l ≤ 56 = omega (arith, ap length v.1, length_event_line e v.0) in
    let cut : take 80 m ≡ l = a ∙ take_all 80 l (omega arith) in
    let whole : length m ≤ 80 = omega (arith, length-take 80 m, ap length cut) in
    (v.0, sym (take_all 80 m whole) ∙ cut ∙ v.1)
first_80_decide l m (Err r) a v = (v.0, v.1, fault_alike l m v.0 (sym a) v.2)
