-- While an owner is out, there is a place for it.
use Rattle.std.proofs.Common.{◌≡◌, ℕ, ◌+◌, ◌<◌, false, is_some, eqb, List, map, length, set, ◌∙◌, arith}
use Rattle.std.proofs.lemmas.Bool.{cases_eq}
use Rattle.std.proofs.lemmas.Bool.Decides.{nat_tests}
use Rattle.std.proofs.lemmas.List.{length-map, length-set, get_or-set_same, get_or-set_other}
use Rattle.std.proofs.lemmas.List.Folds.{list_any_at}
use Rattle.std.proofs.lemmas.Map.Steps.{le-length_from_below}
use Rattle.heap.specs.declared.records.Record.{Record}
use Rattle.heap.specs.Heaps.{owner_at, place_of, IsIndexed, keys}
use Rattle.heap.proofs.Members.{in_at, none_out}

-- were o to note place n, that place would be noted, and so is each before it, by the owner that it names
pub room : {K : Type 0} (xs : List (Record K)) (n o : ℕ) → IsIndexed xs n → o < length xs → is_some (keys xs n o) ≡ false → n < length xs
unfolding place_of
room xs n o x ho none =
    let ps = map (λ r. r.place) xs in
    let qs = set ps o n in
    let long : length qs ≡ length xs = length-set ps o n ∙ length-map xs (λ r. r.place) in
    omega (
      arith,
      long,
      le-length_from_below qs (n + 1) (λ i h.
          let apart = λ (l : i < n) (e : owner_at xs i ≡ o). none_out xs n o x none (in_at xs n i o x l e) in
          grind (arith, nat_tests, cases_eq i n, x.1 i, x.2 i, length-map xs (λ r. r.place), get_or-set_same ps o n 0, get_or-set_other ps o (owner_at xs i) n 0, list_any_at (eqb i) qs o 0, list_any_at (eqb i) qs (owner_at xs i) 0)),
    )
