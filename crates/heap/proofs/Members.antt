-- Who is in the heap, and with which key.
use Rattle.std.proofs.Common.{◌≡◌, ℕ, ◌<◌, ◌≤◌, true, false, ◌⊎◌, List, map, length, is_some as option_is_some, None, arith}
use Rattle.std.proofs.lemmas.Bool.Decides.{nat_tests}
use Rattle.std.proofs.lemmas.List.{length-map}
use Rattle.std.proofs.lemmas.Option.{slice_get_past, slice_get_cases}
use Rattle.heap.specs.declared.records.Record.{Record}
use Rattle.heap.specs.Heaps.{owner_at, place_of, key_of, IsIndexed, is_in, keys}
use Rattle.heap.proofs.Writes.{owner_read, place_read, key_read}

module _ {K : Type 0} where
  -- o is in: its place is one of the first n, and names it
  pub record In (xs : List (Record K)) (n o : ℕ) : Type 0 where
    pub low : place_of xs o < n
    pub back : owner_at xs (place_of xs o) ≡ o

  pub in_at : (xs : List (Record K)) (n k o : ℕ) → IsIndexed xs n → k < n → owner_at xs k ≡ o → In xs n o
  in_at xs n k o x kn e = grind (arith, x.2 k)

  pub cases_in : (xs : List (Record K)) (n o : ℕ) → In xs n o ⊎ (In xs n o → ⊥)
  cases_in xs n o = grind (arith, nat_tests)

  pub keys_in : (xs : List (Record K)) (n o : ℕ) → In xs n o → keys xs n o ≡ key_of xs o
  unfolding keys is_in
  keys_in xs n o s = grind (arith, nat_tests)

  pub keys_out : (xs : List (Record K)) (n o : ℕ) → (In xs n o → ⊥) → keys xs n o ≡ None
  unfolding keys is_in
  keys_out xs n o out = grind (arith, nat_tests)

  pub some_in : (xs : List (Record K)) (n o : ℕ) → option_is_some (keys xs n o) ≡ true → In xs n o
  some_in xs n o h = grind (arith, cases_in xs n o, keys_out xs n o)

  -- who has no record is out
  pub none_past : (xs : List (Record K)) (n o : ℕ) → length xs ≤ o → keys xs n o ≡ None
  unfolding key_of
  none_past xs n o past = grind (arith, cases_in xs n o, keys_in xs n o, keys_out xs n o, slice_get_past (map (λ x. x.key) xs) o, length-map xs (λ x. x.key))

  pub some_within : (xs : List (Record K)) (n o : ℕ) → option_is_some (keys xs n o) ≡ true → o < length xs
  some_within xs n o h = grind (arith, none_past xs n o)

  -- who is in has a record, and so a key
  pub none_out : (xs : List (Record K)) (n o : ℕ) → IsIndexed xs n → option_is_some (keys xs n o) ≡ false → In xs n o → ⊥
  unfolding key_of
  none_out xs n o x none s = grind (arith, slice_get_cases (map (λ x. x.key) xs) o, keys_in xs n o s, x.1 (place_of xs o), length-map xs (λ x. x.key))

  pub same_key : (xs ys : List (Record K)) (n m o : ℕ) → (In xs n o → In ys m o) → (In ys m o → In xs n o) → key_of ys o ≡ key_of xs o → keys ys m o ≡ keys xs n o
  same_key xs ys n m o there back e = grind (arith, cases_in xs n o, keys_in xs n o, keys_in ys m o, keys_out xs n o, keys_out ys m o)

  -- two places have two owners
  pub owners_differ : (xs : List (Record K)) (n i j : ℕ) → IsIndexed xs n → i < n → j < n → (i ≡ j → ⊥) → owner_at xs i ≡ owner_at xs j → ⊥
  owners_differ xs n i j x hi hj d e = grind (arith, x.2 i, x.2 j)

  -- nobody is in a heap of no places
  pub empty_keys : (xs : List (Record K)) (n o : ℕ) → n ≡ 0 → keys xs n o ≡ None
  empty_keys xs n o e = keys_out xs n o (λ s. omega arith)

-- what the records say of an owner
pub ruleset reads = (place_read, owner_read, key_read, none_past, empty_keys)
