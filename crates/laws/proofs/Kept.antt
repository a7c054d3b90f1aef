-- What every step keeps: holdings and free frames are all frames, the minimums fit, and each client is within its terms.
use Rattle.std.proofs.Common.{◌≡◌, ℕ, ◌+◌, ◌<◌, ◌≤◌, ◌≢◌, List, [], ◌∷◌, ◌++◌, reverse, length, Some, None, Option, sym, refl, ap, ◌∙◌, subst, inl, inr, arith, length-append}
use mathlib.Core.Path.{fun_ext}
use lib.ListN.{length-reverse}
use Rattle.std.specs.List.{range_with_len}
use Rattle.std.proofs.lemmas.List.FromFn.{length-range_with_len}
use Rattle.std.proofs.lemmas.Option.{same_Some}
use Rattle.rules.specs.declared.refusal.Refusal.{Refusal}
use Rattle.rules.specs.declared.refusal.Refusal.TheVariants.{PoolOutOfRange, ClientOutOfRange, SharesOutOfRange, ClassOutOfRange, MaximumOutOfRange, AlreadyStarted, AlreadyAdmitted, MaximumAboveFrames, MinimumsAboveFrames}
use Rattle.rules.specs.Offers.{Meaning}
use Rattle.rules.specs.Refusals.{Outside}
use Rattle.rules.proofs.Named.{When}
use Rattle.laws.specs.ByNumber.{total, Numbered, put}
use Rattle.laws.specs.Division.{Terms, Clients, Admissible, terms}
use Rattle.laws.specs.Broker.{Broker, Client, new_broker, terms_of, stack_of}
use Rattle.laws.specs.Calls.{Start, Admit, Admission, IsClear, entries, newcomer, with_stack}
use Rattle.laws.proofs.Sums.{upto_zero}
use Rattle.laws.proofs.Puts.{put_off, put_each, put_sum}
use Rattle.laws.proofs.Refused.{denied}

pub inside : (low high n : ℕ) → (Outside low high n → ⊥) → (low ≤ n) × (n ≤ high)
inside low high n h = grind arith

abbrev pub low_of : Option Client → ℕ
low_of o = (terms (terms_of o)).minimum

abbrev pub high_of : Option Client → ℕ
high_of o = (terms (terms_of o)).maximum

abbrev pub held_of : Option Client → ℕ
held_of o = length (stack_of o)

pub none_some : {A : Type 0} {a : A} {o : Option A} → o ≡ None → o ≡ Some a → ⊥
none_some e f = cc

pub some_there : {A : Type 0} (o : Option A) → (o ≡ None → ⊥) → (a : A) × (o ≡ Some a)
some_there (Some a) h = (a, refl)
some_there None h = absurd (h refl)

pub none_there : {A : Type 0} (o : Option A) → ((o ≡ None → ⊥) → ⊥) → o ≡ None
none_there (Some a) h = absurd (h (λ e. none_some e refl))
none_there None h = refl

-- one client, in a pool of F frames
pub record Fit (F c : ℕ) (o : Option Client) : Type 0 where
  pub fits : held_of o ≤ high_of o
  pub order : low_of o ≤ high_of o
  pub within : high_of o ≤ F
  pub sound : (t : Terms) → terms_of o ≡ Some t → Admissible c t

pub record Pool (F free : ℕ) (cs : ℕ → Option Client) : Type 0 where
  pub small : F ≤ 4_096
  pub all : total (λ c. held_of (cs c)) + free ≡ F
  pub room : total (λ c. low_of (cs c)) ≤ F
  pub each_fits : (c : ℕ) → Fit F c (cs c)

abbrev pub Kept : Broker → Type 0
Kept b = Pool b.frames (length b.free) b.clients

nobody_fits : (F c : ℕ) → Fit F c None
nobody_fits F c = record { fits = omega arith; order = omega arith; within = omega arith; sound = λ t e. absurd (none_some refl e) }

pub new_kept : Kept new_broker
new_kept =
    record { small = omega arith; all = omega (arith, upto_zero 256); room = omega (arith, upto_zero 256); each_fits = nobody_fits 0 }

pub numbered : (F c : ℕ) (o : Option Client) (x : Client) → Fit F c o → o ≡ Some x → Numbered c
numbered F c o x f e = let g = subst (Fit F c) e f in (g.sound _ refl).numbered

-- one client's record is put in place of another
pool_put : (F free left : ℕ) (cs : ℕ → Option Client) (c : ℕ) (o : Option Client) → Pool F free cs → Numbered c → Fit F c o →
    held_of o + left ≡ held_of (cs c) + free → total (λ d. low_of (cs d)) + low_of o ≤ F + low_of (cs c) → Pool F left (put cs c o)
pool_put F free left cs c o k i f e l =
    record {
      small = k.small;
      all = omega (arith, k.all, put_sum cs c o (λ o. held_of o) i);
      room = omega (arith, k.room, put_sum cs c o (λ o. low_of o) i);
      each_fits = put_each cs c o (Fit F) f (λ d ne. k.each_fits d);
    }

-- other stacks, the same terms
pub same_terms : (cs : ℕ → Option Client) (c : ℕ) (x : Client) (fs : List ℕ) → cs c ≡ Some x →
    ◌≡◌ {A = Clients} (λ q. terms_of (put cs c (Some (with_stack x fs)) q)) (λ q. terms_of (cs q))
same_terms cs c x fs e = fun_ext (put_each cs c (Some (with_stack x fs)) (λ q o. terms_of o ≡ terms_of (cs q)) (sym (ap terms_of e)) (λ q ne. refl))

pub started_kept : (m : Meaning) (b : Broker) (u F : ℕ) → Kept b → IsClear m b (Start u F) → Pool F (length (range_with_len 1 F)) b.clients
started_kept m b u F k clear =
    let i = inside 1 4_096 F (λ h. denied m b (Start u F) PoolOutOfRange clear (inl h)) in
    let new = denied m b (Start u F) AlreadyStarted clear in
    record {
      small = omega (arith, i);
      all = omega (arith, k.all, length-range_with_len 1 F, new);
      room = omega (arith, k.room, new);
      each_fits = λ c. let f = k.each_fits c in record { fits = f.fits; order = f.order; within = omega (arith, f.within, new); sound = f.sound };
    }

pub admitted_kept : (m : Meaning) (b : Broker) (a : Admission) → Kept b → IsClear m b (Admit a) →
    Pool b.frames (length b.free) (put b.clients a.client (Some (newcomer a)))
admitted_kept m b a p clear =
    pool_put b.frames (length b.free) (length b.free) b.clients a.client (Some (newcomer a)) p i fit (omega (arith, ap held_of none)) (omega (arith, not MinimumsAboveFrames, ap low_of none))
  where
    not : (r : Refusal) → When (entries m b (Admit a)) r → ⊥
    not r = denied m b (Admit a) r clear

    i : Numbered a.client
    i = inside 1 256 a.client (not ClientOutOfRange)

    j : (1 ≤ a.shares) × (a.shares ≤ 1_000_000)
    j = inside 1 1_000_000 a.shares (not SharesOutOfRange)

    none : b.clients a.client ≡ None
    none = none_there (b.clients a.client) (not AlreadyAdmitted)

    order : a.maximum < a.minimum → ⊥
    order g = not MaximumOutOfRange (inr g)

    good : Admissible a.client (terms (terms_of (Some (newcomer a))))
    good = record { numbered = i; some_shares = j.0; few_shares = j.1; low_class = omega (arith, not ClassOutOfRange); small_active = λ n e. absurd (none_some refl e) }

    fit : Fit b.frames a.client (Some (newcomer a))
    fit =
        record {
          fits = omega arith;
          order = omega (arith, order);
          within = omega (arith, not MaximumAboveFrames);
          sound = λ t e. subst (Admissible a.client) (same_Some _ t e) good;
        }

module _ (F : ℕ) (cs : ℕ → Option Client) (c : ℕ) (x : Client) (e : cs c ≡ Some x) where
  replaced : (free left : ℕ) (o : Option Client) → Pool F free cs → Fit F c o → held_of o + left ≡ length x.stack + free → low_of o ≤ x.minimum → Pool F left (put cs c o)
  replaced free left o k f s l =
      pool_put F free left cs c o k (numbered F c (cs c) x (k.each_fits c) e) f (omega (arith, s, ap held_of e)) (omega (arith, l, ap low_of e, k.room))

  fit : (free : ℕ) → Pool F free cs → Fit F c (Some x)
  fit free k = subst (Fit F c) e (k.each_fits c)

  -- the client gets another stack
  stack_kept : (free left : ℕ) (fs : List ℕ) → Pool F free cs → length fs ≤ x.maximum → length fs + left ≡ length x.stack + free →
      Pool F left (put cs c (Some (with_stack x fs)))
  stack_kept free left fs k l s =
      let f = fit free k in
      replaced free left (Some (with_stack x fs)) k (record { fits = l; order = f.order; within = f.within; sound = f.sound }) s (omega arith)

  pub free_kept : (free fs : List ℕ) (f : ℕ) → Pool F (length free) cs → free ≡ f ∷ fs → held_of (cs c) < high_of (cs c) → Pool F (length fs) (put cs c (Some (with_stack x (f ∷ x.stack))))
  free_kept free fs f k g room =
      stack_kept (length free) (length fs) (f ∷ x.stack) k (omega (arith, room, ap held_of e, ap high_of e)) (omega (arith, ap length g))

  pub back_kept : (free fs : List ℕ) (f : ℕ) → Pool F (length free) cs → x.stack ≡ f ∷ fs → Pool F (length (f ∷ free)) (put cs c (Some (with_stack x fs)))
  back_kept free fs f k g =
      stack_kept (length free) (length (f ∷ free)) fs k (omega (arith, (fit (length free) k).fits, ap length g)) (omega (arith, ap length g))

  pub left_kept : (free : List ℕ) → Pool F (length free) cs → Pool F (length (reverse x.stack ++ free)) (put cs c None)
  left_kept free k =
      replaced (length free) (length (reverse x.stack ++ free)) None k (nobody_fits F c) (omega (arith, length-append (reverse x.stack) free, length-reverse x.stack)) (omega arith)

-- c gets the top frame of p
pub from_kept : (F : ℕ) (cs : ℕ → Option Client) (c p f : ℕ) (fs : List ℕ) (x y : Client) → Pool F 0 cs → p ≢ c →
    cs c ≡ Some x → cs p ≡ Some y → y.stack ≡ f ∷ fs → held_of (cs c) < high_of (cs c) →
    Pool F 0 (put (put cs p (Some (with_stack y fs))) c (Some (with_stack x (f ∷ x.stack))))
from_kept F cs c p f fs x y k ne e g h room =
    let one = back_kept F cs p y g [] fs f k h in
    let off = put_off cs p (Some (with_stack y fs)) c (λ q. ne (sym q)) in
    free_kept F (put cs p (Some (with_stack y fs))) c x (off ∙ e) (f ∷ []) [] f one refl (rw off room)
