-- The first end of an estimate, and one estimate dropped.
use Rattle.std.proofs.Common.{◌≡◌, ℕ, ◌<◌, Some, None, Option, refl, ap, ◌∙◌, arith}
use Rattle.std.proofs.lemmas.Option.{same_Some}
use Rattle.std.proofs.lemmas.Bool.Decides.{nat_tests}
use Rattle.heap.specs.Heaps.{Least}
use Rattle.heap.specs.Indexed.{keys_in}
use Rattle.laws.specs.Broker.{Estimate}
use Rattle.laws.specs.Calls.{ended, moved, with_estimate}
use Rattle.laws.proofs.Kept.{none_some}
use Rattle.pool.specs.declared.ends.End.{End}
use Rattle.pool.specs.Ends.{leads, tick_of}
use Rattle.pool.specs.Records.{Member, estimate_end, end_in, ended_in}
use Rattle.pool.specs.Members.{Members, member_of, IsSetAt}
use Rattle.pool.specs.View.{Pool, view, client_with}
use Rattle.pool.specs.Clocks.{FindsEnded, DropsFrom}
use Rattle.pool.proofs.Views.{seen_with}
use Rattle.pool.proofs.Tables.{client_is, set_clients}
use Rattle.ledger.specs.Ledgers.{stack_of}

-- an estimate that ends at no tick, or only after t, does not end by t
later : (t : ℕ) (v : Option Estimate) → ((s : ℕ) → estimate_end v ≡ Some s → t < s) → ended t v ≡ 0
later t (Some e) h = let after = h e.end refl in grind (arith, nat_tests)
later t None h = refl

later_in : (t : ℕ) (o : Option Member) → ((s : ℕ) → end_in o ≡ Some s → t < s) → ended_in t o ≡ 0
later_in t (Some x) h = later t x.estimate h
later_in t None h = refl

-- where all keys are after t, so are their ticks
later_key : (t s : ℕ) (o : Option End) → ((k : End) → o ≡ Some k → t < k.tick) → tick_of o ≡ Some s → t < s
later_key t s (Some k) h e = omega (arith, h k refl, same_Some k.tick s e)
later_key t s None h e = absurd (none_some refl e)

-- where the first end is after t, no estimate ends by t
pub none_ended : (m : Members) (t o : ℕ) (e : End) → Least leads (keys_in m.ends) o e → t < e.tick → (c : ℕ) → ended_in t (member_of m c) ≡ 0
none_ended m t o e first late c =
    later_in t (member_of m c) (λ s q. later_key t s (keys_in m.ends c) (λ k has. let led = first.leads c k has in grind (arith, nat_tests)) (m.ends_kept c ∙ q))

-- an ended estimate is dropped from the table
pub drop_one : (k : ℕ) (b : Pool) (t : Members) (c : ℕ) (x y : Member) → IsSetAt b.members c (Some y) t → FindsEnded b.members k (Some (c, x)) →
    client_with y (stack_of b.ledger c) ≡ with_estimate (client_with x (stack_of b.ledger c)) None →
    DropsFrom k (view b) c (seen_with b t b.ledger)
drop_one k b t c x y set (i, e, h) without =
    record {
      numbered = i;
      client = client_with x (stack_of b.ledger c);
      there = client_is b c x e;
      over = h;
      after = ap (moved (view b) (view b).free)
          (set_clients b t (stack_of b.ledger) c (Some y) (Some (with_estimate (client_with x (stack_of b.ledger c)) None)) set (ap Some without) (λ d pos ne. refl));
    }
