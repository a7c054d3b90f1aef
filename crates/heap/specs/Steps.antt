-- The steps inside a call: what a write leaves of the records, and how far a key may be from where it belongs.
--
-- OwnerPlaced    an owner stands at a place now, and its record notes that place
-- OwnersSwapped  the owners at two places have changed places
-- IsChild        one of the first n places is a child of another
-- Gap            the places would be in order, were one of them left out
-- Rises          what stands at that place leads its children, and may have to rise
-- Sinks          what stands at that place is led by its parent, and may have to sink
-- IsFirstChild   a place is a child of another, and what stands at it leads all children
-- Sifted         the first n places are a heap, and as a map it is what it was before
use Rattle.std.specs.Prelude.{◌≡◌, ℕ, ◌<◌, Bool, true, List, length, ◌≢◌}
use Rattle.heap.specs.declared.records.Record.{Record}
use Rattle.heap.specs.Heaps.{Heap, owner_at, place_of, key_of, keys, parent}

module _ {K : Type 0} where
  pub record OwnerPlaced (xs ys : List (Record K)) (i o : ℕ) : Type 0 where
    pub long : length ys ≡ length xs
    pub keys : (q : ℕ) → key_of ys q ≡ key_of xs q
    pub owner : owner_at ys i ≡ o
    pub place : place_of ys o ≡ i
    pub owners : (k : ℕ) → (k ≢ i) → owner_at ys k ≡ owner_at xs k
    pub places : (q : ℕ) → (q ≢ o) → place_of ys q ≡ place_of xs q

  pub record OwnersSwapped (xs ys : List (Record K)) (i j : ℕ) : Type 0 where
    pub long : length ys ≡ length xs
    pub keys : (q : ℕ) → key_of ys q ≡ key_of xs q
    pub left : owner_at ys i ≡ owner_at xs j
    pub right : owner_at ys j ≡ owner_at xs i
    pub owners : (k : ℕ) → (k ≢ i) → (k ≢ j) → owner_at ys k ≡ owner_at xs k
    pub at_right : place_of ys (owner_at xs i) ≡ j
    pub at_left : (owner_at xs i ≢ owner_at xs j) → place_of ys (owner_at xs j) ≡ i
    pub places : (q : ℕ) → (q ≢ owner_at xs i) → (q ≢ owner_at xs j) → place_of ys q ≡ place_of xs q

pub record IsChild (n j k : ℕ) : Type 0 where
  pub deep : 0 < k
  pub within : k < n
  pub under : parent k ≡ j

module _ {X : Type 0} (le : X → X → Bool) where
  pub record Gap (f : ℕ → X) (j n : ℕ) : Type 0 where
    pub apart : (k : ℕ) → 0 < k → k < n → (parent k ≢ j) → (k ≢ j) → le (f (parent k)) (f k) ≡ true
    pub across : (k : ℕ) → 0 < j → IsChild n j k → le (f (parent j)) (f k) ≡ true

  pub record Rises (f : ℕ → X) (j n : ℕ) : Type 0 where
    pub gap : Gap f j n
    pub down : (k : ℕ) → IsChild n j k → le (f j) (f k) ≡ true

  pub record Sinks (f : ℕ → X) (j n : ℕ) : Type 0 where
    pub gap : Gap f j n
    pub up : 0 < j → le (f (parent j)) (f j) ≡ true

  pub record IsFirstChild (f : ℕ → X) (j c n : ℕ) : Type 0 where
    pub below : IsChild n j c
    pub leads : (k : ℕ) → IsChild n j k → le (f c) (f k) ≡ true

module _ {K : Type 0} (le : K → K → Bool) where
  pub record Sifted (xs ys : List (Record K)) (n : ℕ) : Type 0 where
    pub heap : Heap le ys n
    pub map : (o : ℕ) → keys ys n o ≡ keys xs n o
