-- Brokers made new, and orders performed on them one after the other.
use Rattle.std.proofs.Common.{◌≡◌, ℕ, ◌+◌, ◌<◌, ◌≤◌, List, [], ◌∷◌, ◌++◌, length, get_or, take, drop, set, Some, None, Result, sym, refl, ap, ◌∙◌, subst, arith}
use Rattle.std.proofs.lemmas.List.{take_more, take_more_set, take_all, drop-set-lt, length-set, length-map}
use Rattle.std.proofs.lemmas.Grind.{drop_more_same}
use Rattle.std.proofs.lemmas.Option.{same_Some, slice_get_within}
use Rattle.rules.specs.declared.refusal.Refusal.{Refusal}
use Rattle.rules.specs.Offers.{Meaning, Lawful}
use Rattle.laws.specs.ByNumber.{put}
use Rattle.laws.specs.Broker.{new_broker}
use Rattle.laws.specs.Calls.{Answer, Step}
use Rattle.laws.specs.Histories.{Event, event, Run, start, then, reached}
use Rattle.laws.proofs.Guaranteed.{histories_keep_guarantees}
use Rattle.laws.proofs.Puts.{put_at, put_off, put_each}
use Rattle.price.specs.declared.price.Price.{Ghosts}
use Rattle.broker.specs.View.{meaning, view}
use Rattle.broker.specs.declared.plain.PlainBroker.{PlainBroker}
use Rattle.broker.specs.Plain.{broker_of}
use Rattle.family.specs.Families.{Order, Outcome, At, Brokers, FamilyRun, begin, next, nowhere, FamiliesKeepGuarantees, price_of, meanings, Performed}
use Rattle.family.specs.Orders.{Renewed, Called, Obeyed}
use Rattle.family.proofs.Places.{Paired, paired_set, get_mapped, within_get}

-- each broker's own events are a run of it
abbrev Led : List Meaning → Brokers → ℕ → List Event → Type 0
Led ms bs i h = (m : Meaning) → At ms i m → Run m (bs i) h (reached (bs i) h)

pub own_run : {ms : List Meaning} {bs : Brokers} {os : List Order} {ts : List Outcome} {hs : ℕ → List Event} → FamilyRun ms bs os ts hs → (i : ℕ) → Led ms bs i (hs i)
own_run begin i = λ m e. start
own_run {ms = ms} {bs = bs} (next {hs = hs} {m = n} {a = a} {d = d} o r it s) i =
    let h = event o.call a d ∷ hs o.broker in
    put_each hs o.broker h (Led ms bs) (λ m e. subst (λ m. Run m (bs o.broker) h d) (same_Some n m (sym it ∙ e)) (then (own_run r o.broker n it) s)) (λ j ne. own_run r j) i
own_run (nowhere o r l) i = own_run r i

pub families_keep_guarantees : FamiliesKeepGuarantees
families_keep_guarantees ms l os ts hs r i m e =
    let led = own_run r i m e in (led, histories_keep_guarantees m (l i m e) (hs i) (reached new_broker (hs i)) led)

module _ {P : Type 0} {g : Ghosts P} where
  -- a broker is new, if it is one of the first k, and under its price
  abbrev New : ℕ → ℕ → PlainBroker P g → PlainBroker P g → Type 0
  New k i b c = (i < k → view (broker_of c) ≡ new_broker) × (price_of c ≡ price_of b)

  pub renewed_none : (bs : List (PlainBroker P g)) → Renewed 0 bs bs
  renewed_none bs = record { each = λ i b e. (b, e, (λ l. absurd (omega arith), refl)); brokers = refl }

  pub renewed_one : (k : ℕ) (bs cs : List (PlainBroker P g)) (b c : PlainBroker P g) → At cs k b → view (broker_of c) ≡ new_broker → price_of c ≡ price_of b → Renewed k bs cs → Renewed (k + 1) bs (set cs k c)
  renewed_one k bs cs b c it new same r =
      record {
        each = paired_set (New k) (New (k + 1)) bs cs k b c r.each it (λ x e q. (λ l. new, same ∙ q.1)) (λ i x w ne q. (λ l. q.0 (omega (arith, ne)), q.1));
        brokers = length-set cs k c ∙ r.brokers;
      }

  -- a broker is where its own events led it, under its price
  abbrev Stands : (ℕ → List Event) → ℕ → PlainBroker P g → PlainBroker P g → Type 0
  Stands hs i b c = (view (broker_of c) ≡ reached new_broker (hs i)) × (price_of c ≡ price_of b)

  -- the first orders were performed
  pub record Sofar (bs : List (PlainBroker P g)) (os : List Order) (before : List Outcome) (i : ℕ) (cs : List (PlainBroker P g)) (after : List Outcome) : Type 0 where
    pub events : ℕ → List Event
    pub run : FamilyRun (meanings bs) (λ _. new_broker) (take i os) (take i after) events
    pub each : Paired (Stands events) bs cs
    pub brokers : length cs ≡ length bs
    pub beyond : drop i after ≡ drop i before
    pub long : length after ≡ length before

  pub sofar_none : (bs cs : List (PlainBroker P g)) (os : List Order) (before : List Outcome) → Renewed (length bs) bs cs → Sofar bs os before 0 cs before
  sofar_none bs cs os before r =
      record {
        events = λ _. [];
        run = begin;
        each = λ i b e. let (c, there, new) = r.each i b e in (c, there, (new.0 (slice_get_within bs i b e), new.1));
        brokers = r.brokers;
        beyond = refl;
        long = refl;
      }

  module _ {bs cs : List (PlainBroker P g)} {os : List Order} {before after : List Outcome} {i : ℕ} (s : Sofar bs os before i cs after) where
    module _ (fits : length os ≤ length before) (within : i < length os) {o : Order} (it : get_or os i o ≡ o) where
      more : (t : Outcome) (hs : ℕ → List Event) (ds : List (PlainBroker P g)) → FamilyRun (meanings bs) (λ _. new_broker) (take i os ++ o ∷ []) (take i after ++ t ∷ []) hs →
          Paired (Stands hs) bs ds → length ds ≡ length bs → Sofar bs os before (i + 1) ds (set after i t)
      more t hs ds r each size =
          let short : i < length after = omega (arith, s.long) in
          record {
            events = hs;
            run = rw (take_more os i o within, it, take_more_set after i t short) r;
            each = each;
            brokers = size;
            beyond = drop-set-lt (i + 1) after i t (omega arith) ∙ drop_more_same after before i s.beyond;
            long = length-set after i t ∙ s.long;
          }

      called : (a : Result Answer Refusal) (ds : List (PlainBroker P g)) → Called cs o a ds → Sofar bs os before (i + 1) ds (set after i (Some a))
      called a ds made =
          let (b, at) = within_get bs o.broker (omega (arith, s.brokers, slice_get_within cs o.broker made.before made.there)) in
          let (c, there, stood) = s.each o.broker b at in
          let was = subst (Stands s.events o.broker b) (same_Some c made.before (sym there ∙ made.there)) stood in
          let step : Step (meaning (broker_of b)) (reached new_broker (s.events o.broker)) o.call a (view (broker_of made.after)) =
          subst (λ d. Step (meaning (broker_of b)) d o.call a (view (broker_of made.after))) was.0
          (subst (λ p. Step (g.meaning p) (view (broker_of made.before)) o.call a (view (broker_of made.after))) was.1 made.called.step) in
          let hs = put s.events o.broker (event o.call a (view (broker_of made.after)) ∷ s.events o.broker) in
          more (Some a) hs ds (next o s.run (get_mapped _ bs o.broker b at) step)
          (rw made.others (paired_set (Stands s.events) (Stands hs) bs cs o.broker made.before made.after s.each made.there
          (λ x e q. (rw put_at refl, made.called.price ∙ q.1)) (λ j x w ne q. (rw (put_off s.events o.broker _ j ne) q.0, q.1))))
          (ap length made.others ∙ length-set cs o.broker made.after ∙ s.brokers)

      pub sofar_one : (t : Outcome) {ds : List (PlainBroker P g)} → Obeyed cs o t ds → Sofar bs os before (i + 1) ds (set after i t)
      sofar_one (Some a) {ds} made = called a ds made
      sofar_one None (far, same) = rw same (more None s.events cs (nowhere o s.run (omega (arith, s.brokers, length-map {A = PlainBroker P g} {B = Meaning}))) s.each s.brokers)

    pub all_done : ((p : P) → Lawful (g.meaning p)) → i ≡ length os → Performed bs os before cs after
    all_done lawful e =
        let r : FamilyRun (meanings bs) (λ _. new_broker) os (take (length os) after) s.events = rw (← e) (rw (take_all i os (omega (arith, e))) at s.run) in
        record {
          events = s.events;
          run = r;
          each = λ j b at.
              let (c, there, stood) = s.each j b at in
              let led : Run (meaning (broker_of b)) new_broker (s.events j) (view (broker_of c)) = rw stood.0 (own_run r j _ (get_mapped _ bs j b at)) in
              let kept = lawful (price_of b) in
              (c, there, record { lawful = kept; price = stood.1; led = led; guarantees = histories_keep_guarantees _ kept _ _ led });
          brokers = s.brokers;
          beyond = rw (← e) s.beyond;
        }
