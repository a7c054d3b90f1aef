-- What a read of one record says, and what a write to one leaves of all of them.
use Rattle.std.proofs.Common.{◌≡◌, ℕ, ◌<◌, List, map, length, get_or, set, Some, ◌≢◌, sym, refl, ap, ◌∙◌, arith}
use Rattle.std.specs.List.{slice_get}
use Rattle.std.proofs.Math.Seq.{map-set_same}
use Rattle.std.proofs.lemmas.Grind.{common_steps}
use Rattle.std.proofs.lemmas.Option.{gets, slice_get-get_or}
use Rattle.std.proofs.lemmas.List.{length-set, length-map, map-set, get_or-map, get_or-set_same, get_or-set_other}
use Rattle.heap.specs.declared.records.Record.{Record}
use Rattle.heap.specs.Heaps.{owner_at, place_of, key_of}
use Rattle.heap.specs.Steps.{OwnerPlaced}

written : {X : Type 0} (f : X → ℕ) (xs : List X) (i : ℕ) (a : X) → i < length xs → get_or (map f (set xs i a)) i 0 ≡ f a
written f xs i a h = rw (map-set f xs i a) (get_or-set_same (map f xs) i (f a) 0 (omega (arith, length-map xs f)))

unwritten : {X : Type 0} (f : X → ℕ) (xs : List X) (i k : ℕ) (a : X) → (k ≡ i → ⊥) → get_or (map f (set xs i a)) k 0 ≡ get_or (map f xs) k 0
unwritten f xs i k a h = rw (map-set f xs i a) (get_or-set_other (map f xs) i k (f a) 0 h)

nth_unwritten : {X : Type 0} (l : List X) (i j : ℕ) (v : X) → (j ≡ i → ⊥) → slice_get (set l i v) j ≡ slice_get l j
nth_unwritten l i j v h = grind (arith, common_steps, gets)

module _ {K : Type 0} where
  -- an owner has another key
  pub record Rekeyed (xs ys : List (Record K)) (o : ℕ) (k : K) : Type 0 where
    pub long : length ys ≡ length xs
    pub owners : (i : ℕ) → owner_at ys i ≡ owner_at xs i
    pub places : (q : ℕ) → place_of ys q ≡ place_of xs q
    pub key : key_of ys o ≡ Some k
    pub keys : (q : ℕ) → (q ≢ o) → key_of ys q ≡ key_of xs q

  pub owner_read : (xs : List (Record K)) (i : ℕ) (d : Record K) → i < length xs → (get_or xs i d).owner ≡ owner_at xs i
  unfolding owner_at
  owner_read xs i d h = sym (get_or-map (λ x. x.owner) xs i d 0 h)

  pub place_read : (xs : List (Record K)) (o : ℕ) (d : Record K) → o < length xs → (get_or xs o d).place ≡ place_of xs o
  unfolding place_of
  place_read xs o d h = sym (get_or-map (λ x. x.place) xs o d 0 h)

  pub key_read : (xs : List (Record K)) (o : ℕ) (d : Record K) → o < length xs → key_of xs o ≡ Some (get_or xs o d).key
  unfolding key_of
  key_read xs o d h =
      slice_get-get_or (map (λ x. x.key) xs) o d.key (omega (arith, length-map xs (λ x. x.key))) ∙ ap Some (get_or-map (λ x. x.key) xs o d d.key h)

  -- an owner written at its place, and then the place at the owner
  module _ (xs : List (Record K)) (i o : ℕ) (d e : Record K) (hi : i < length xs) (ho : o < length xs) where
    abbrev pub named : Record K
    named = record { key = (get_or xs i d).key; owner = o; place = (get_or xs i d).place }

    abbrev pub between : List (Record K)
    between = set xs i named

    abbrev pub noted : Record K
    noted = record { key = (get_or between o e).key; owner = (get_or between o e).owner; place = i }

    pub owner_placed : OwnerPlaced xs (set between o noted) i o
    unfolding owner_at place_of key_of
    owner_placed = record {
      long = length-set between o noted ∙ length-set xs i named;
      keys = λ q. rw (map-set_same (λ x. x.key) between o noted e refl, map-set_same (λ x. x.key) xs i named d refl);
      owner = rw (map-set_same (λ x. x.owner) between o noted e refl) (written (λ x. x.owner) xs i named hi);
      place = written (λ x. x.place) between o noted (omega (arith, length-set xs i named));
      owners = λ k n. rw (map-set_same (λ x. x.owner) between o noted e refl) (unwritten (λ x. x.owner) xs i k named n);
      places = λ q n. rw (unwritten (λ x. x.place) between o q noted n, map-set_same (λ x. x.place) xs i named d refl);
    }

  pub rekeyed : (xs : List (Record K)) (o : ℕ) (d : Record K) (k : K) → o < length xs → Rekeyed xs (set xs o (record { key = k; owner = (get_or xs o d).owner; place = (get_or xs o d).place })) o k
  unfolding owner_at place_of key_of
  rekeyed xs o d k h =
      let a : Record K = record { key = k; owner = (get_or xs o d).owner; place = (get_or xs o d).place } in
      record {
        long = length-set xs o a;
        owners = λ i. rw (map-set_same (λ x. x.owner) xs o a d refl);
        places = λ q. rw (map-set_same (λ x. x.place) xs o a d refl);
        key = key_read (set xs o a) o d (omega (arith, length-set xs o a)) ∙ ap (λ z. Some z.key) (get_or-set_same xs o a d h);
        keys = λ q n. rw (map-set (λ x. x.key) xs o a) (nth_unwritten (map (λ x. x.key) xs) o q k n);
      }
