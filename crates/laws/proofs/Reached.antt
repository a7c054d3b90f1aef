-- Rest is reached: accepted asks end, and once each client has asked again the broker is at rest.
use Rattle.std.proofs.Common.{◌≡◌, ℕ, zero, suc, ◌+◌, ◌<◌, ◌≤◌, ◌⊎◌, List, [], ◌∷◌, ◌++◌, Some, None, Option, sym, refl, ap, ◌∙◌, subst, inl, inr, append_assoc, arith, Ok, Err, Result}
use Rattle.std.proofs.lemmas.Bool.{cases_eq}
use Rattle.rules.specs.declared.refusal.Refusal.{Refusal}
use Rattle.rules.specs.declared.refusal.Refusal.TheVariants.{AtMaximum, Outbid}
use Rattle.rules.specs.Offers.{Meaning, Lawful}
use Rattle.laws.specs.ByNumber.{Numbered}
use Rattle.laws.specs.Broker.{SlipNumbers, Broker, Client, new_broker}
use Rattle.laws.specs.Calls
use Rattle.laws.specs.Calls.{Call, Ask, Deliver, Answer, Done, Step, RefusedBy, IsClear, entries}
use Rattle.laws.specs.Histories.{Event, event, Run, start, then, Each, grant, grants, IsRefused, AcceptsOnlyAsks, TurnsAway, TurnedAway, AtRest}
use Rattle.laws.specs.Guarantees.{room}
use Rattle.laws.specs.Laws.{Asked, RestIsReached}
use Rattle.laws.proofs.Sums.{In}
use Rattle.laws.proofs.Kept.{Kept, numbered}
use Rattle.laws.proofs.Runs.{history_kept, refused_step, joined_run, lands}
use Rattle.laws.proofs.Asks.{stretch_bounded, asks_are_bounded}
use Rattle.laws.proofs.One.{first_or_clear, kind}
use Rattle.laws.proofs.Answered.{answers}

grants_append : (more h : List Event) → grants (more ++ h) ≡ grants more + grants h
unfolding grants
grants_append [] h = omega arith
grants_append (e ∷ more) h = omega (arith, grants_append more h)

-- an ask of an admitted client that is refused with no passage open turns it away
module _ (m : Meaning) (b : Broker) (c : ℕ) (i : Numbered c) (x : Client) (there : b.clients c ≡ Some x) (closed : b.passage ≡ None) where
  which : (r : Refusal) → RefusedBy m b (Ask c) r → (r ≡ AtMaximum) ⊎ (r ≡ Outbid)
  which r f = grind arith

  turns : (y : Call) (a : Result Answer Refusal) (d : Broker) → y ≡ Ask c → IsRefused a → Step m b y a d → TurnsAway c (event y a d)
  turns y a d e n s =
      let (r, q, f, same) = refused_step m b y a d n s in
      (e, elim (which r (subst (λ z. RefusedBy m b z r) e q)) [ inl g ↦ inl (f ∙ ap Err g) | inr g ↦ inr (f ∙ ap Err g) ])

then_turned : (m : Meaning) → Lawful m → (c : ℕ) (x : Client) (asked earlier : List Event) (b : Broker) → Run m new_broker (asked ++ earlier) b → b.passage ≡ None →
    Each (λ e. IsRefused e.answer) asked → Asked c asked → b.clients c ≡ Some x → TurnedAway c (asked ++ earlier)
then_turned m l c x [] earlier b r closed n asks there = absurd asks
then_turned m l c x (e ∷ asked) earlier b (then {x = y} {a = a} {d = d} r s) closed (n, ns) asks there =
    let same = (refused_step m d y a b n s).3 in
    let here = subst (λ q. q.clients c ≡ Some x) same there in
    let shut = subst (λ q. q.passage ≡ None) same closed in
    let k = history_kept m l (asked ++ earlier) d r in
    elim asks [
      | inl e ↦ inl (turns m d c (numbered d.frames c (d.clients c) x (k.each_fits c) here) x here shut y a b e n s)
      | inr q ↦ inr (n, then_turned m l c x asked earlier d r shut ns q here)
    ]

then_rest : (m : Meaning) → Lawful m → (asked earlier : List Event) (b : Broker) → Run m new_broker (asked ++ earlier) b → b.passage ≡ None →
    Each (λ e. IsRefused e.answer) asked → ((c : ℕ) (x : Client) → b.clients c ≡ Some x → Asked c asked) → AtRest new_broker (asked ++ earlier)
then_rest m l asked earlier b r closed n all c x e =
    let there = subst (λ q. q.clients c ≡ Some x) (lands m new_broker (asked ++ earlier) b r) e in
    then_turned m l c x asked earlier b r closed n (all c x there) there

each_append : (P : Event → Type 0) (h k : List Event) → Each P h → Each P k → Each P (h ++ k)
each_append P [] k p q = q
each_append P (e ∷ h) k p q = (p.0, each_append P h k p.1 q)

refused_only : (h : List Event) → Each (λ e. IsRefused e.answer) h → AcceptsOnlyAsks h
refused_only [] n = tt
refused_only (e ∷ h) n = (λ a. absurd (n.0 a), refused_only h n.1)

-- an ask that meets no refusal is granted
clear_grants : (m : Meaning) (b : Broker) (c : ℕ) (a : Result Answer Refusal) (d : Broker) → IsClear m b (Ask c) → Step m b (Ask c) a d → grant a ≡ 1
clear_grants m b c a d clear (Calls.refused {r = r} q) = absurd (first_or_clear (entries m b (Ask c)) r q clear)
clear_grants m b c a d clear (Calls.accepted k (Calls.granted_free e f)) = refl
clear_grants m b c a d clear (Calls.accepted k (Calls.granted_from e f t g h)) = refl

module _ (m : Meaning) (l : Lawful m) where
  -- the clients up to n have asked b and were refused
  record Swept (b : Broker) (n : ℕ) : Type 0 where
    asked : List Event
    run : Run m b asked b
    refused : Each (λ e. IsRefused e.answer) asked
    all : (c : ℕ) → In n c → Asked c asked

  -- some ask of b is granted
  record Won (b : Broker) : Type 0 where
    more : List Event
    to : Broker
    run : Run m b more to
    only : AcceptsOnlyAsks more
    won : 1 ≤ grants more

  sweep : (b : Broker) → Kept b → (n : ℕ) → Swept b n ⊎ Won b
  unfolding grants
  sweep b k zero = inl (record { asked = []; run = start; refused = tt; all = λ c i. absurd (omega arith) })
  sweep b k (suc n) = elim (sweep b k n) [ inl s ↦ next s (answers m l b k (Ask (suc n))) | inr w ↦ inr w ]
    where
      next : Swept b n → (a : Result Answer Refusal) × (d : Broker) × Step m b (Ask (suc n)) a d → Swept b (suc n) ⊎ Won b
      next s (a, d, step) =
          elim (kind m b (Ask (suc n)) a d step) [
            | inl (r, q, f, g) ↦ inl (record {
              asked = event (Ask (suc n)) (Err r) b ∷ s.asked;
              run = then s.run (Calls.refused q);
              refused = (λ a. a, s.refused);
              all = λ c i. elim (cases_eq c (suc n)) [ inl e ↦ inl (ap Ask (sym e)) | inr ne ↦ inr (s.all c (omega arith)) ];
            })
            | inr clear ↦ inr (record {
              more = event (Ask (suc n)) a d ∷ s.asked;
              to = d;
              run = then s.run step;
              only = (λ _. tt, refused_only s.asked s.refused);
              won = omega (arith, clear_grants m b (suc n) a d clear step);
            })
          ]

  -- a delivery closes an open passage
  closing : (b : Broker) → (h : List Event) × (d : Broker) × Run m b h d × AcceptsOnlyAsks h × (d.passage ≡ None)
  closing b = go b.passage refl
    where
      go : (o : Option SlipNumbers) → b.passage ≡ o → (h : List Event) × (d : Broker) × Run m b h d × AcceptsOnlyAsks h × (d.passage ≡ None)
      go (Some s) e = (event (Deliver s) (Ok Done) _ ∷ [], _, then start (Calls.accepted (λ n. n e, tt) Calls.delivered), (λ _. tt, tt), refl)
      go None e = ([], b, start, tt, e)

  module _ (h : List Event) (b : Broker) (r : Run m new_broker h b) where
    abbrev Rests : Type 0
    Rests = (more : List Event) × (d : Broker) × Run m b more d × AcceptsOnlyAsks more × AtRest new_broker (more ++ h)

    -- a stretch of asks and deliveries with one more grant
    abbrev Longer : List Event → Type 0
    Longer s = (t : List Event) × (d : Broker) × Run m b t d × AcceptsOnlyAsks t × (grants s < grants t)

    -- from the end of such a stretch every client asks: the broker is at rest, or one more ask is granted
    round : (s : List Event) (d : Broker) → Run m b s d → AcceptsOnlyAsks s → Rests ⊎ Longer s
    round s d q only =
        elim (sweep e (history_kept m l (t ++ h) e whole) 256) [
          | inl w ↦ inl (
            w.asked ++ t,
            e,
            joined_run m b t e there w.asked e w.run,
            each_append _ w.asked t (refused_only w.asked w.refused) only_there,
            subst (AtRest new_broker) (sym (append_assoc w.asked t h))
                (then_rest m l w.asked (t ++ h) e (joined_run m new_broker (t ++ h) e whole w.asked e w.run) shut w.refused (λ c x i. w.all c (admitted c x i))),
          )
          | inr w ↦ inr (
            w.more ++ t,
            w.to,
            joined_run m b t e there w.more w.to w.run,
            each_append _ w.more t w.only only_there,
            omega (arith, w.won, grants_append w.more t, grants_append (closing d).0 s),
          )
        ]
      where
        e : Broker
        e = (closing d).1

        t : List Event
        t = (closing d).0 ++ s

        shut : e.passage ≡ None
        shut = (closing d).4

        there : Run m b t e
        there = joined_run m b s d q (closing d).0 e (closing d).2

        only_there : AcceptsOnlyAsks t
        only_there = each_append _ (closing d).0 s (closing d).3 only

        whole : Run m new_broker (t ++ h) e
        whole = joined_run m new_broker h b r t e there

        admitted : (c : ℕ) (x : Client) → e.clients c ≡ Some x → Numbered c
        admitted c x i = numbered e.frames c (e.clients c) x ((history_kept m l (t ++ h) e whole).each_fits c) i

    -- with fewer than n grants left
    reach : (n : ℕ) (s : List Event) (d : Broker) → Run m b s d → AcceptsOnlyAsks s → room b < grants s + n → Rests
    reach zero s d q only enough = absurd (omega (arith, stretch_bounded m l b (history_kept m l h b r) s d q only))
    reach (suc n) s d q only enough =
        elim (round s d q only) [ inl x ↦ x | inr (t, e, there, only_there, more) ↦ reach n t e there only_there (omega arith) ]

pub rest_is_reached : RestIsReached
rest_is_reached =
    record {
      asks_end = λ m l more stretch earlier b r a full.
          let bound = asks_are_bounded m l (more ++ (stretch ++ earlier)) b r [] (more ++ stretch) earlier (sym (append_assoc more stretch earlier)) a in
          omega (arith, bound, grants_append more stretch);
      then_rest = then_rest;
      within_reach = λ m l h b r. reach m l h b r (room b + 1) [] b start tt (omega arith);
    }
