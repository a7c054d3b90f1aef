-- A passage is open exactly from an accepted ask to the delivery of its slip.
use Rattle.std.proofs.Common.{◌≡◌, ℕ, ◌<◌, List, ◌∷◌, Some, None, refl, ap, inl, inr, sym, ◌∙◌, arith, Ok, Result}
use Rattle.std.proofs.lemmas.Option.{same_Some}
use Rattle.rules.specs.declared.refusal.Refusal.{Refusal}
use Rattle.rules.specs.declared.refusal.Refusal.TheVariants.{AlreadyStarted, PassageOpen, NotTheOpenSlip}
use Rattle.rules.specs.Offers.{Meaning, Lawful}
use Rattle.laws.specs.Broker.{SlipNumbers, Broker, new_broker, holding, maximum_of}
use Rattle.laws.specs.Calls
use Rattle.laws.specs.Calls.{Call, Start, Admit, Ask, Deliver, HandBack, Leave, SetEstimate, SetClock, Answer, Step, IsClear}
use Rattle.laws.specs.Histories.{Event, event, Run, start, then}
use Rattle.laws.specs.Tallies.{AskedLast}
use Rattle.laws.specs.Laws.{PassagesFollowAsks}
use Rattle.laws.proofs.Refused.{denied}
use Rattle.laws.proofs.Kept.{Kept, none_some, none_there}
use Rattle.laws.proofs.Answered.{dec_this}
use Rattle.laws.proofs.Runs.{ask_room, history_kept, accepted_clear}

record Passages (b : Broker) (h : List Event) : Type 0 where
  asked : (s : SlipNumbers) → b.passage ≡ Some s → AskedLast s h
  opened : (s : SlipNumbers) → AskedLast s h → b.passage ≡ Some s
  idle : b.frames ≡ 0 → b.passage ≡ None

-- an accepted call that is no ask, after which no passage is open
shut : (h : List Event) (x : Call) (w : Answer) (d : Broker) → ((c : ℕ) → x ≡ Ask c → ⊥) → d.passage ≡ None → Passages d (event x (Ok w) d ∷ h)
shut h x w d other none =
    record {
      asked = λ s e. absurd (none_some none e);
      opened = λ s q. elim q [ inl p ↦ absurd (other s.client p.0) | inr p ↦ absurd (p.0 tt) ];
      idle = λ _. none;
    }

module _ (m : Meaning) (b : Broker) (k : Kept b) (h : List Event) (p : Passages b h) where
  -- nothing but a delivery is accepted while a passage is open
  waits : (x : Call) → IsClear m b x → ((s : SlipNumbers) → x ≡ Deliver s → ⊥) → b.passage ≡ None
  waits (Start u F) clear n = p.idle (omega (arith, denied m b (Start u F) AlreadyStarted clear))
  waits (Admit a) clear n = none_there b.passage (denied m b (Admit a) PassageOpen clear)
  waits (Ask c) clear n = none_there b.passage (denied m b (Ask c) PassageOpen clear)
  waits (Deliver s) clear n = absurd (n s refl)
  waits (HandBack c) clear n = none_there b.passage (denied m b (HandBack c) PassageOpen clear)
  waits (Leave c) clear n = none_there b.passage (denied m b (Leave c) PassageOpen clear)
  waits (SetEstimate c e) clear n = none_there b.passage (denied m b (SetEstimate c e) PassageOpen clear)
  waits (SetClock t) clear n = none_there b.passage (denied m b (SetClock t) PassageOpen clear)

  delivery_alone : (x : Call) → IsClear m b x → (s : SlipNumbers) → b.passage ≡ Some s → x ≡ Deliver s
  delivery_alone (Deliver t) clear s e = elim (dec_this b.passage t) [ yes f ↦ cc | no n ↦ absurd (denied m b (Deliver t) NotTheOpenSlip clear n) ]
  delivery_alone x clear s e = absurd (none_some (waits x clear (λ t f. cc)) e)

  granted : (c : ℕ) (d : Broker) (s : SlipNumbers) → s.client ≡ c → d.passage ≡ Some s → d.frames ≡ b.frames → holding b c < maximum_of b c → Passages d (event (Ask c) (Ok (Calls.Granted s)) d ∷ h)
  granted c d s who there same room =
      record {
        asked = λ t e. let q : s ≡ t = same_Some s t (sym there ∙ e) in inl (ap Ask (sym who ∙ ap (λ (z : SlipNumbers). z.client) q), ap (λ (z : SlipNumbers). Ok (Calls.Granted z)) q);
        opened = λ t q. elim q [ inl e ↦ (let z : s ≡ t = cc (e.1) in there ∙ ap Some z) | inr e ↦ absurd (e.0 tt) ];
        idle = λ z. absurd (omega (arith, (k.each_fits c).within));
      }

  step_passages : (x : Call) (a : Result Answer Refusal) (d : Broker) → Step m b x a d → Passages d (event x a d ∷ h)
  step_passages x a d (Calls.refused q) =
      record { asked = λ s e. inr (λ n. n, p.asked s e); opened = λ s e. elim e [ inl z ↦ absurd (cc (z.1)) | inr z ↦ p.opened s z.1 ]; idle = p.idle }
  step_passages x a d (Calls.accepted clear (Calls.granted_free {c = c} e g)) = granted c d _ refl refl refl (ask_room m b c clear)
  step_passages x a d (Calls.accepted clear (Calls.granted_from {c = c} e g t i j)) = granted c d _ refl refl refl (ask_room m b c clear)
  step_passages x a d (Calls.accepted {a = w} clear Calls.delivered) = shut h x w d (λ c e. cc) refl
  step_passages x a d (Calls.accepted {a = w} clear Calls.started) = shut h x w d (λ c e. cc) (waits x clear (λ s e. cc))
  step_passages x a d (Calls.accepted {a = w} clear Calls.admitted) = shut h x w d (λ c e. cc) (waits x clear (λ s e. cc))
  step_passages x a d (Calls.accepted {a = w} clear (Calls.handed_back e g)) = shut h x w d (λ c e. cc) (waits x clear (λ s e. cc))
  step_passages x a d (Calls.accepted {a = w} clear (Calls.left e)) = shut h x w d (λ c e. cc) (waits x clear (λ s e. cc))
  step_passages x a d (Calls.accepted {a = w} clear (Calls.estimated e)) = shut h x w d (λ c e. cc) (waits x clear (λ s e. cc))
  step_passages x a d (Calls.accepted {a = w} clear Calls.clocked) = shut h x w d (λ c e. cc) (waits x clear (λ s e. cc))

run_passages : (m : Meaning) → Lawful m → (h : List Event) (b : Broker) → Run m new_broker h b → Passages b h
run_passages m l h b start = record { asked = λ s e. absurd (none_some refl e); opened = λ s e. absurd e; idle = λ _. refl }
run_passages m l h b (then {x = x} {a = a} {d = d} {h = k} r s) = step_passages m d (history_kept m l k d r) k (run_passages m l k d r) x a b s

pub passages_follow_asks : PassagesFollowAsks
passages_follow_asks =
    record {
      opened = λ m l h b r s. let p = run_passages m l h b r in (p.asked s, p.opened s);
      closed = λ m l h b r s e x a d z. delivery_alone m b (history_kept m l h b r) h (run_passages m l h b r) x (accepted_clear m b x a d z) s e;
    }
