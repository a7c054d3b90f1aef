-- What holds of the broker. Each law is demanded by a function of this crate and proved in proofs/.
--
-- OfEveryHistory             something holds of every history under a lawful price, and of the broker that it leads to
-- DivisionIsUnique           no two different divisions of the same frames among the same clients are settled
-- HistoriesKeepGuarantees    every history keeps the three guarantees
-- times_in                   how often a frame lies in the stacks of a broker
-- FramesLieOnce              every frame of the pool lies in exactly one stack, once, and nothing else lies in any
-- OneAnswer                  a call on a broker has one answer, and leaves one broker
-- EveryCallIsAnswered        a call that is not refused is accepted
-- ListsRise                  the places rise along the refusals of every call and question, those from the input first
-- LowestPayerIsFound         there is one lowest payer, or none
-- BrokersStayInRange         every history leads to a broker that is in its ranges
-- HoldingsAddUp              a holding is the slips of the client's asks, less those that name it as former owner and
--                            its hand-backs, since its admission
-- AsksAreCounted             the count of asks is that of the asks accepted, modulo 2 ^ 64
-- PassagesFollowAsks         a passage is open exactly from an accepted ask to the delivery of its slip
-- Asked                      a client has asked
-- RestIsReached              where only asks and deliveries are accepted, these asks end and the broker comes to rest
use Rattle.std.specs.Prelude.{◌≡◌, ℕ, ◌+◌, ◌%◌, ◌^◌, ◌<◌, ◌≤◌, ◌↔◌, true, false, ◌⊎◌, List, [], ◌∷◌, ◌++◌, count_by, Some, None, Ok, Option, Result, ◌==◌}
use Rattle.rules.specs.declared.refusal.Refusal.{Refusal}
use Rattle.rules.specs.Offers.{Meaning, Lawful}
use Rattle.rules.specs.Refusals.{Rising, AllInput, Outside}
use Rattle.laws.specs.ByNumber.{total}
use Rattle.laws.specs.Division.{Clients, AllAdmissible, Settled}
use Rattle.laws.specs.Broker.{SlipNumbers, Estimate, Client, Broker, new_broker, stack_of, holding}
use Rattle.laws.specs.Calls.{Call, Ask, Deliver, Answer, inputs, states, priced, entries, Step}
use Rattle.laws.specs.Questions.{price_entries, client_entries, LowestIs}
use Rattle.laws.specs.Histories.{Event, Run, reached, Each, IsRefused, grants, AcceptsOnlyAsks, AtRest}
use Rattle.laws.specs.Guarantees.{room, Guarantees}
use Rattle.laws.specs.Ranges.{TickFits, IsInRange}
use Rattle.laws.specs.Tallies.{since, gained, lost, returned, AskedLast}

abbrev pub OfEveryHistory : (Meaning → List Event → Broker → Type 0) → Type 0
OfEveryHistory P = (m : Meaning) → Lawful m → (h : List Event) (b : Broker) → Run m new_broker h b → P m h b

abbrev pub DivisionIsUnique : Type 0
DivisionIsUnique =
    (m : Meaning) → Lawful m → (F : ℕ) → F ≤ 4_096 → (cs : Clients) → AllAdmissible cs →
    (n o : ℕ → ℕ) → Settled m F cs n → Settled m F cs o → (c : ℕ) → n c ≡ o c

abbrev pub HistoriesKeepGuarantees : Type 0
HistoriesKeepGuarantees = OfEveryHistory (λ m h b. Guarantees m h)

abbrev pub times_in : Broker → ℕ → ℕ
times_in b f = total (λ c. count_by (λ g. f == g) (stack_of (b.clients c))) + count_by (λ g. f == g) b.free

abbrev pub FramesLieOnce : Type 0
FramesLieOnce =
    OfEveryHistory (λ m h b. (f : ℕ) →
    (((1 ≤ f) × (f ≤ b.frames)) → times_in b f ≡ 1) × (Outside 1 b.frames f → times_in b f ≡ 0))

abbrev pub OneAnswer : Type 0
OneAnswer =
    (m : Meaning) (b : Broker) (x : Call) (a c : Result Answer Refusal) (d e : Broker) →
    Step m b x a d → Step m b x c e → (a ≡ c) × (d ≡ e)

abbrev pub EveryCallIsAnswered : Type 0
EveryCallIsAnswered =
    OfEveryHistory (λ m h b. (x : Call) → (a : Result Answer Refusal) × (d : Broker) × Step m b x a d)

pub record ListsRise : Type 0 where
  pub calls : (m : Meaning) (b : Broker) (x : Call) → Rising (entries m b x)
  pub from_input : (x : Call) → AllInput true (inputs x)
  pub from_state : (m : Meaning) (b : Broker) (x : Call) → AllInput false (states b x ++ priced m b x)
  pub prices : (b : Broker) (c count : ℕ) → Rising (price_entries b c count)
  pub clients : (b : Broker) (c : ℕ) → Rising (client_entries b c)

pub record LowestPayerIsFound : Type 0 where
  pub one : (m : Meaning) (b : Broker) (p q : Option ℕ) → LowestIs m b p → LowestIs m b q → p ≡ q
  pub found : OfEveryHistory (λ m h b. (p : Option ℕ) × LowestIs m b p)

pub record BrokersStayInRange : Type 0 where
  pub ranges : OfEveryHistory (λ m h b. IsInRange b)
  -- where the calls' ticks are 32-bit numbers, so is the broker's
  pub ticks : OfEveryHistory (λ m h b. Each (λ e. TickFits e.call) h → b.tick < 2 ^ 32)
  -- and so are the ends of the estimates
  pub ends : OfEveryHistory (λ m h b. Each (λ e. TickFits e.call) h →
      (c : ℕ) (x : Client) (e : Estimate) → b.clients c ≡ Some x → x.estimate ≡ Some e → e.end < 2 ^ 32)

-- A number that no client has holds nothing.
abbrev pub HoldingsAddUp : Type 0
HoldingsAddUp =
    OfEveryHistory (λ m h b. (c : ℕ) → 1 ≤ c →
    let k = since c h in
    holding b c + lost c k + returned c k ≡ gained c k)

abbrev pub AsksAreCounted : Type 0
AsksAreCounted = OfEveryHistory (λ m h b. b.asks ≡ grants h % 2 ^ 64)

pub record PassagesFollowAsks : Type 0 where
  -- a passage is open exactly while the last call accepted is the ask that its slip answers
  pub opened : OfEveryHistory (λ m h b. (s : SlipNumbers) → (b.passage ≡ Some s) ↔ AskedLast s h)
  -- and then nothing but the delivery of this slip is accepted
  pub closed : OfEveryHistory (λ m h b. (s : SlipNumbers) → b.passage ≡ Some s →
      (x : Call) (a : Answer) (d : Broker) → Step m b x (Ok a) d → x ≡ Deliver s)

abbrev pub Asked : ℕ → List Event → Type 0
Asked c [] = ⊥
Asked c (e ∷ h) = (e.call ≡ Ask c) ⊎ Asked c h

pub record RestIsReached : Type 0 where
  -- once as many asks were accepted as the clients might still get at the start, every further ask is refused
  pub asks_end : (m : Meaning) → Lawful m → (more stretch earlier : List Event) (b : Broker) →
      Run m new_broker (more ++ (stretch ++ earlier)) b → AcceptsOnlyAsks (more ++ stretch) →
      room (reached new_broker earlier) ≤ grants stretch → grants more ≡ 0
  -- once each client has asked, with no passage open and every call refused, the broker is at rest
  pub then_rest : (m : Meaning) → Lawful m → (asked earlier : List Event) (b : Broker) →
      Run m new_broker (asked ++ earlier) b → b.passage ≡ None → Each (λ e. IsRefused e.answer) asked →
      ((c : ℕ) (x : Client) → b.clients c ≡ Some x → Asked c asked) → AtRest new_broker (asked ++ earlier)
  -- from every broker that a history leads to, asks and deliveries lead to rest
  pub within_reach : OfEveryHistory (λ m h b.
      (more : List Event) × (d : Broker) × Run m b more d × AcceptsOnlyAsks more × AtRest new_broker (more ++ h))
