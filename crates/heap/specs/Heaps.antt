-- The heap as a map from owners to keys: what its calls take and leave.
--
-- owner_at    the owner whom a slice of records names at a place
-- place_of    the place that the slice notes for an owner
-- key_of      the key that the slice notes for an owner, if it has a record for it
-- key_at      the key of the owner at a place
-- is_in       whether an owner is in a heap of the first n places
-- keys        the heap as a map: an owner's key, if it is in
-- IsIndexed   each of the first n places of a slice names an owner who has a record, and that record notes the place
-- parent      the place of a place's parent; the root, place 0, has none
-- Ordered     what stands at each of the first n places comes no earlier than what stands at its parent
-- none_first  an order of keys, carried over to keys that may be absent
-- Heap        the first n places of a slice of records are indexed, and their keys are in order
-- Least       an owner has a key, and it leads all keys of a map
-- IsRoot      an owner below n with the least key of a map, and that key, or none where the map has no key
-- Changed     a call has given one owner another key, or none, and has changed nothing else
use Rattle.std.specs.Prelude.{◌≡◌, ℕ, ◌+◌, ◌-◌, ◌/◌, ◌<◌, ◌≤◌, Bool, true, false, cond, ◌&&◌, List, map, length}
use Rattle.std.specs.Prelude.{is_some, Some, None, MatchOption, Option, ◌==◌, nat_eq, nat_lt, slice_index}
use Rattle.std.specs.Borrow.{Bor}
use Rattle.std.specs.List.{slice_get}
use Rattle.std.specs.Map.{update}
use Rattle.heap.specs.declared.records.Record.{Record}

module _ {K : Type 0} where
  unfoldable pub owner_at : List (Record K) → ℕ → ℕ
  owner_at xs i = slice_index (map (λ x. x.owner) xs) i

  unfoldable pub place_of : List (Record K) → ℕ → ℕ
  place_of xs o = slice_index (map (λ x. x.place) xs) o

  unfoldable pub key_of : List (Record K) → ℕ → Option K
  key_of xs o = slice_get (map (λ x. x.key) xs) o

  abbrev pub key_at : List (Record K) → ℕ → Option K
  key_at xs i = key_of xs (owner_at xs i)

  -- An owner that was never in, or is in no more, may note any place: what counts is that the place names it too.
  unfoldable pub is_in : List (Record K) → ℕ → ℕ → Bool
  is_in xs n o = nat_lt (place_of xs o) n && owner_at xs (place_of xs o) == o

  unfoldable pub keys : List (Record K) → ℕ → ℕ → Option K
  keys xs n o = cond (is_in xs n o) (key_of xs o) None

  abbrev pub IsIndexed : List (Record K) → ℕ → Type 0
  IsIndexed xs n =
      (n ≤ length xs)
      × ((i : ℕ) → i < n → owner_at xs i < length xs)
      × ((i : ℕ) → i < n → place_of xs (owner_at xs i) ≡ i)

abbrev pub parent : ℕ → ℕ
parent k = (k - 1) / 2

-- over any function from places to what stands there
abbrev pub Ordered : {X : Type 0} → (X → X → Bool) → (ℕ → X) → ℕ → Type 0
Ordered le f n = (k : ℕ) → (0 < k) × (k < n) → le (f (parent k)) (f k) ≡ true

-- no key comes before all keys; among the first n places of a heap none is absent
abbrev pub none_first : {K : Type 0} → (K → K → Bool) → Option K → Option K → Bool
none_first le None y = true
none_first le (Some a) None = false
none_first le (Some a) (Some b) = le a b

module _ {K : Type 0} (le : K → K → Bool) where
  abbrev pub Heap : List (Record K) → ℕ → Type 0
  Heap xs n = IsIndexed xs n × Ordered (none_first le) (key_at xs) n

  pub record Least (m : ℕ → Option K) (o : ℕ) (k : K) : Type 0 where
    pub has : m o ≡ Some k
    pub leads : (q : ℕ) (b : K) → m q ≡ Some b → le k b ≡ true

  abbrev pub IsRoot : ℕ → (ℕ → Option K) → Option (ℕ × Bor K) → Type 0
  IsRoot n m r = MatchOption r ((o : ℕ) → m o ≡ None) (λ p. (p.0 < n) × Least m p.0 p.1.now)

  -- from the first n places of xs to the first m of ys: owner o now has the key w, or is out where w is none
  pub record Changed (xs : List (Record K)) (n : ℕ) (ys : List (Record K)) (m : ℕ) (o : ℕ) (w : Option K) : Type 0 where
    pub heap : Heap ys m
    pub map : (q : ℕ) → keys ys m q ≡ update nat_eq (keys xs n) o w q
    pub count : m + cond (is_some (keys xs n o)) 1 0 ≡ n + cond (is_some w) 1 0
    pub long : length ys ≡ length xs
