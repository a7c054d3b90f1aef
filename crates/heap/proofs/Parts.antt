-- A heap by its parts, and the owner at its root.
use Rattle.std.proofs.Common.{◌≡◌, ℕ, ◌<◌, ◌≤◌, Bool, List, length, get_or, take, is_some, Some, None, sym, ap, ◌∙◌, arith}
use Rattle.std.proofs.lemmas.List.{length-take, get_or-take}
use Rattle.heap.specs.declared.records.Record.{Record}
use Rattle.heap.specs.Heaps.{owner_at, place_of, key_of, key_at, keys, Heap, Least}
use Rattle.heap.proofs.Orders.{Lawful, none_first_lawful}
use Rattle.heap.proofs.Trees.{root_leads}
use Rattle.heap.proofs.Writes.{owner_read, key_read}
use Rattle.heap.proofs.Members.{In, in_at, keys_in, some_in, empty_keys}

module _ {K : Type 0} (le : K → K → Bool) where
  -- fewer places are a heap too
  pub heap_less : (xs : List (Record K)) (m n : ℕ) → m ≤ n → Heap le xs n → Heap le xs m
  heap_less xs m n h t = ((omega (arith, t.0.0), λ i l. t.0.1 i (omega arith), λ i l. t.0.2 i (omega arith)), λ k l. t.1 k (omega (arith, l)))

  -- what is read of the first place, where there is one
  module _ (xs : List (Record K)) (n : ℕ) (t : Heap le xs n) (r : Record K) (some : 0 < length (take n xs)) (read : r ≡ get_or (take n xs) 0 r) where
    stands : 0 < n
    stands = omega (arith, length-take n xs)

    at_root : r.owner ≡ owner_at xs 0
    at_root = ap (λ z. z.owner) (read ∙ get_or-take n xs 0 r stands) ∙ owner_read xs 0 r (omega (arith, t.0.0, stands))

    pub root_within : r.owner < length xs
    root_within = let e = at_root in omega (arith, t.0.1 0 stands)

    pub root_least : Lawful le → (d : Record K) → Least le (keys xs n) r.owner (get_or xs r.owner d).key
    root_least law d =
        let k : key_of xs r.owner ≡ Some (get_or xs r.owner d).key = key_read xs r.owner d root_within in
        let f : key_at xs 0 ≡ Some (get_or xs r.owner d).key = rw (← at_root) k in
        record {
          has = keys_in xs n r.owner (in_at xs n 0 r.owner t.0 stands (sym at_root)) ∙ k;
          leads = λ q b e.
              let v : In xs n q = some_in xs n q (ap is_some e) in
              let c : key_at xs (place_of xs q) ≡ Some b = rw v.back (sym (keys_in xs n q v) ∙ e) in
              rw (f, c) at (root_leads (none_first_lawful law) (key_at xs) n t.1 (place_of xs q) v.low);
        }

-- what a read of the first place says
pub ruleset first = (length-take, get_or-take, owner_read, empty_keys)
