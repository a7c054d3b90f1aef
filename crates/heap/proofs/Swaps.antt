-- Two owners that change places: the same owners are in, with the same keys.
use Rattle.std.proofs.Common.{◌≡◌, ℕ, ◌<◌, List, arith}
use Rattle.std.proofs.lemmas.Bool.{cases_eq}
use Rattle.std.proofs.lemmas.List.Edits.{Swapped}
use Rattle.heap.specs.declared.records.Record.{Record}
use Rattle.heap.specs.Heaps.{owner_at, place_of, key_at, IsIndexed, keys}
use Rattle.heap.specs.Steps.{OwnersSwapped}
use Rattle.heap.proofs.Members.{In, same_key, owners_differ}

module _ {K : Type 0} (xs ys : List (Record K)) (i j n : ℕ) (hi : i < n) (hj : j < n) (d : i ≡ j → ⊥) (x : IsIndexed xs n) (e : OwnersSwapped xs ys i j) where
  swapped_indexed : IsIndexed ys n
  swapped_indexed = (
    omega (arith, e.long, x.0),
    λ k kn. grind (arith, cases_eq k i, cases_eq k j, e.long, e.owners k, x.1),
    λ k kn. grind (arith, cases_eq k i, cases_eq k j, e.owners k, e.places, x.2, owners_differ xs n i j x hi hj d, owners_differ xs n k i x kn hi, owners_differ xs n k j x kn hj),
  )

  there : (o : ℕ) → In xs n o → In ys n o
  there o s = let p = place_of xs o in grind (arith, cases_eq p i, cases_eq p j, e.owners p, swapped_indexed.2)

  back : (o : ℕ) → In ys n o → In xs n o
  back o s = let p = place_of ys o in grind (arith, cases_eq p i, cases_eq p j, e.owners p, x.2)

  pub owners_swapped : IsIndexed ys n × ((o : ℕ) → keys ys n o ≡ keys xs n o)
  owners_swapped = (swapped_indexed, λ o. same_key xs ys n n o (there o) (back o) (e.keys o))

pub keys_swapped : {K : Type 0} (xs ys : List (Record K)) (i j : ℕ) → OwnersSwapped xs ys i j → Swapped (key_at xs) (key_at ys) i j
keys_swapped xs ys i j e = (rw e.left (e.keys (owner_at xs j)), rw e.right (e.keys (owner_at xs i)), λ k ni nj. rw (e.owners k ni nj) (e.keys (owner_at xs k)))
