-- Places in order, one of which may be out of it: the steps of a sift, and that the root leads all.
use Rattle.std.proofs.Common.{◌≡◌, ℕ, zero, suc, ◌+◌, ◌<◌, ◌≤◌, Bool, true, false, inl, inr, arith}
use Rattle.std.proofs.lemmas.Bool.{cases_eq}
use Rattle.std.proofs.lemmas.List.Edits.{Swapped}
use Rattle.heap.specs.Heaps.{parent, Ordered}
use Rattle.heap.specs.Steps.{IsChild, Gap, Rises, Sinks, IsFirstChild}
use Rattle.heap.proofs.Orders.{Lawful, leads_itself}

module _ {X : Type 0} {le : X → X → Bool} (law : Lawful le) where
  -- the one at j, which comes before the one parent it, changes places with it
  pub rise : (f g : ℕ → X) (j n : ℕ) → 0 < j → j < n → false ≡ le (f (parent j)) (f j) → Swapped f g (parent j) j → Rises le f j n → Rises le g (parent j) n
  rise f g j n deep jn late s r = record { gap = record { apart = apart; across = across }; down = down }
    where
      apart : (k : ℕ) → 0 < k → k < n → (parent k ≡ parent j → ⊥) → (k ≡ parent j → ⊥) → le (g (parent k)) (g k) ≡ true
      apart k k0 kn na nk = grind (arith, cases_eq (parent k) j, cases_eq k j, s.2 k, s.2 (parent k), r.gap.apart k, r.gap.across k)

      -- who leads the one parent j leads what lies below that place afterwards
      led : (t : X) → le t (f (parent j)) ≡ true → (k : ℕ) → IsChild n (parent j) k → le t (g k) ≡ true
      led t h k b = grind (arith, cases_eq k j, s.2 k, r.gap.apart k, law.chain t (f (parent j)) (f k))

      across : (k : ℕ) → 0 < parent j → IsChild n (parent j) k → le (g (parent (parent j))) (g k) ≡ true
      across k h b = grind (arith, s.2 (parent (parent j)), r.gap.apart (parent j), led (f (parent (parent j))))

      down : (k : ℕ) → IsChild n (parent j) k → le (g (parent j)) (g k) ≡ true
      down k b = grind (arith, law.total (f (parent j)) (f j), led (f j))

  -- the one at j, which comes after the first below it, at c, changes places with that
  pub sink : (f g : ℕ → X) (j c n : ℕ) → IsFirstChild le f j c n → false ≡ le (f j) (f c) → Swapped f g j c → Sinks le f j n → Sinks le g c n
  sink f g j c n first late s r = record { gap = record { apart = apart; across = across }; up = up }
    where
      apart : (k : ℕ) → 0 < k → k < n → (parent k ≡ c → ⊥) → (k ≡ c → ⊥) → le (g (parent k)) (g k) ≡ true
      apart k k0 kn na nk = grind (arith, cases_eq (parent k) j, cases_eq k j, s.2 k, s.2 (parent k), r.gap.apart k, r.gap.across c, first.leads k)

      across : (k : ℕ) → 0 < c → IsChild n c k → le (g (parent c)) (g k) ≡ true
      across k c0 b = grind (arith, s.2 k, r.gap.apart k)

      up : 0 < c → le (g (parent c)) (g c) ≡ true
      up c0 = grind (arith, law.total (f j) (f c))

  -- one place of an order changes
  pub gap : (f g : ℕ → X) (j m n : ℕ) → n ≤ m → j < m → Ordered le f m → ((k : ℕ) → k < n → (k ≡ j → ⊥) → g k ≡ f k) → Gap le g j n
  gap f g j m n nm jm o same = record {
    apart = λ k k0 kn na nk. grind (arith, same k, same (parent k), o k);
    across = λ k j0 b. grind (arith, same k, same (parent j), o j, o k, law.chain (f (parent j)) (f j) (f k));
  }

  -- one more place at the end
  pub added : (f g : ℕ → X) (n : ℕ) → Ordered le f n → ((k : ℕ) → k < n → g k ≡ f k) → Rises le g n (n + 1)
  added f g n o same = record {
    gap = record { apart = λ k k0 kn na nk. grind (arith, same k, same (parent k), o k); across = λ k n0 b. absurd (omega arith) };
    down = λ k b. absurd (omega arith);
  }

  -- the root leads all
  pub root_leads : (f : ℕ → X) (n : ℕ) → Ordered le f n → (k : ℕ) → k < n → le (f 0) (f k) ≡ true
  root_leads f n o k kn = go k k (omega arith) kn
    where
      go : (m k : ℕ) → k ≤ m → k < n → le (f 0) (f k) ≡ true
      go zero k h kn = let z : k ≡ 0 = omega arith in rw z (leads_itself law (f 0))
      go (suc m) k h kn =
          elim (cases_eq k 0) [
            | inl e ↦ rw e (leads_itself law (f 0))
            | inr d ↦ law.chain (f 0) (f (parent k)) (f k) (go m (parent k) (omega arith) (omega arith)) (o k (omega arith, kn))
          ]
