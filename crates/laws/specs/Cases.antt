-- Worked examples of prices and settled divisions, and of what the premises of guarantees and laws bear.
--
-- hundred           an offer of 100 shares, with a class, an active count or none, and a count
-- quote             a quote of a class, a top and a bottom
-- three             something for each of the clients 1, 2 and 3, and the same for all other numbers
-- with_shares       a client's terms: shares, a minimum, a maximum, and no estimate
-- trio              clients 1, 2 and 3 with 500, 300 and 100 shares: a minimum for client 3, and a maximum for all
-- newly             a client with shares and a minimum, that holds nothing yet
-- sharing           a broker with frames and clients 1, 2 and 3 with 500, 300 and 100 shares: a minimum for client 1
-- accepts, refuses  a call that was accepted and so answered, one that was refused, and the broker after it
-- at_tick           a new broker, its clock set
-- WorkedExamples    the examples, all together
use Rattle.std.specs.Prelude.{◌≡◌, ℕ, ◌+◌, ◌-◌, ◌^◌, ◌≤◌, cond, [], ◌∷◌, Some, None, Ok, Err, Option, ◌==◌, ◌≢◌}
use Rattle.std.specs.List.{range_with_len}
use Rattle.rules.specs.declared.offer.Offer.{Offer}
use Rattle.rules.specs.declared.offer.Quote.{Quote}
use Rattle.rules.specs.declared.refusal.Refusal.{Refusal}
use Rattle.rules.specs.declared.refusal.Refusal.TheVariants.{NotAdmitted, AtMaximum, Outbid, HoldsNoFrame}
use Rattle.rules.specs.Prices.{share, taxed, classed}
use Rattle.laws.specs.ByNumber.{total}
use Rattle.laws.specs.Division.{Terms, Clients, Settled}
use Rattle.laws.specs.Broker.{Client, Broker, Estimate, SlipNumbers, new_broker, share_of, MinimumsWithin}
use Rattle.laws.specs.Calls.{Admission, Call, Start, Admit, Ask, Deliver, HandBack, Leave, SetEstimate, SetClock, Answer, Done, Granted, Frame, Count}
use Rattle.laws.specs.Histories.{Event, event, Throughout, AskOrDelivery, AcceptsOnlyAsks, TurnedAway, AtRest, Keeps}
use Rattle.laws.specs.Guarantees.{TellsShare}
use Rattle.laws.specs.Ranges.{TickFits}
use Rattle.laws.specs.Laws.{Asked}

abbrev pub hundred : ℕ → Option ℕ → ℕ → Offer
hundred class active count = record { shares = 100; class = class; active = active; count = count }

abbrev pub quote : ℕ → ℕ → ℕ → Quote
quote class top bottom = record { class = class; top = top; bottom = bottom }

abbrev pub three : {A : Type 0} → A → A → A → A → ℕ → A
three a b c z n = cond (n == 1) a (cond (n == 2) b (cond (n == 3) c z))

abbrev pub with_shares : ℕ → ℕ → ℕ → Option Terms
with_shares shares minimum maximum =
    Some (record { shares = shares; class = 0; minimum = minimum; maximum = maximum; active = None })

abbrev pub trio : ℕ → ℕ → Clients
trio minimum maximum =
    three (with_shares 500 0 maximum) (with_shares 300 0 maximum) (with_shares 100 minimum maximum) None

abbrev pub newly : ℕ → ℕ → Option Client
newly shares minimum =
    Some (record { shares = shares; class = 0; minimum = minimum; maximum = 7; estimate = None; stack = [] })

abbrev pub sharing : ℕ → ℕ → Broker
sharing frames minimum =
    record new_broker {
      unit = 1;
      frames = frames;
      free = range_with_len 1 frames;
      clients = three (newly 500 minimum) (newly 300 0) (newly 100 0) None;
    }

abbrev pub accepts : Call → Answer → Broker → Event
accepts x a b = event x (Ok a) b

abbrev pub refuses : Call → Refusal → Broker → Event
refuses x r b = event x (Err r) b

abbrev pub at_tick : ℕ → Broker
at_tick t = record new_broker { tick = t }

pub record WorkedExamples : Type 0 where
  -- 100 shares at 4 frames under the share price
  pub share_price : share (hundred 0 None 4) ≡ quote 0 100 4
  -- the same under the taxed price at 75, with 2 frames active
  pub taxed_price : taxed 75 (hundred 0 (Some 2) 4) ≡ quote 0 2500 250
  -- and without an estimate
  pub no_estimate : taxed 75 (hundred 0 None 4) ≡ quote 0 2500 100
  -- class 3 over the share price
  pub class_price : classed share (hundred 3 None 4) ≡ quote 3 100 4
  -- seven frames among three clients
  pub seven_frames : Settled share 7 (trio 0 7) (three 5 2 0 0)
  -- the same with a minimum of 1 for client 3
  pub a_minimum : Settled share 7 (trio 1 7) (three 4 2 1 0)
  -- and with maximums of 2 and no minimum, which leaves one frame free
  pub maximums : Settled share 7 (trio 0 2) (three 2 2 2 0)
  pub one_free : total (three 2 2 2 0) + 1 ≡ 7
  -- the proportional shares of these three clients, rounded down
  pub proportional : (share_of (sharing 7 0) 1 ≡ 3) × (share_of (sharing 7 0) 2 ≡ 2) × (share_of (sharing 7 0) 3 ≡ 0)
  -- of nine frames client 1 has a share of exactly 5: a minimum of 5 is within it, and one of 6 is not
  pub within : MinimumsWithin (sharing 9 5)
  pub not_within : MinimumsWithin (sharing 9 6) → ⊥
  -- the share price tells what it tells, and the taxed price does not
  pub tells_share : TellsShare share
  pub taxed_differs : TellsShare (taxed 75) → ⊥
  -- client 1 keeps its frames by any call that is refused, and by any other call than its own hand-back and leave
  pub keeps : (x : Call) (r : Refusal) (b : Broker) → Keeps 1 (refuses x r b)
  pub keeps_too : (x : Call) (a : Answer) (b : Broker) → x ≢ HandBack 1 → x ≢ Leave 1 → Keeps 1 (accepts x a b)
  -- and not by these
  pub hands_back : (b : Broker) → Keeps 1 (accepts (HandBack 1) (Frame 5) b) → ⊥
  pub leaves : (b : Broker) → Keeps 1 (accepts (Leave 1) (Count 2) b) → ⊥
  -- in a stretch of asks and deliveries these may be accepted
  pub stretch : (c : ℕ) (s : SlipNumbers) → AskOrDelivery (Ask c) × AskOrDelivery (Deliver s)
  -- and no other calls
  pub no_start : (u F : ℕ) → AskOrDelivery (Start u F) → ⊥
  pub no_admission : (a : Admission) → AskOrDelivery (Admit a) → ⊥
  pub no_hand_back : (c : ℕ) → AskOrDelivery (HandBack c) → ⊥
  pub no_leave : (c : ℕ) → AskOrDelivery (Leave c) → ⊥
  pub no_estimates : (c : ℕ) (e : Estimate) → AskOrDelivery (SetEstimate c e) → ⊥
  pub no_clock : (t : ℕ) → AskOrDelivery (SetClock t) → ⊥
  pub asks : (s : SlipNumbers) (b : Broker) → AcceptsOnlyAsks (accepts (Deliver s) Done b ∷ accepts (Ask 1) (Granted s) b ∷ [])
  -- but they may be refused
  pub in_stretch : (b : Broker) → AcceptsOnlyAsks (refuses (HandBack 1) HoldsNoFrame b ∷ refuses (Ask 1) Outbid b ∷ [])
  pub no_stretch : (b : Broker) → AcceptsOnlyAsks (accepts (HandBack 1) (Frame 5) b ∷ refuses (Ask 1) Outbid b ∷ []) → ⊥
  -- client 1 is turned away at its maximum or outbid, and stays so while every call is refused
  pub at_maximum : (b : Broker) → TurnedAway 1 (refuses (Ask 1) AtMaximum b ∷ [])
  pub outbid : (b : Broker) → TurnedAway 1 (refuses (HandBack 1) HoldsNoFrame b ∷ refuses (Ask 1) Outbid b ∷ [])
  -- it is not by another refusal, by an ask of another client, or once a call was accepted
  pub another_refusal : (b : Broker) → TurnedAway 1 (refuses (Ask 1) NotAdmitted b ∷ []) → ⊥
  pub another_client : (b : Broker) → TurnedAway 1 (refuses (Ask 2) Outbid b ∷ []) → ⊥
  pub no_longer : (b : Broker) → TurnedAway 1 (accepts (SetClock 4) (Count 0) b ∷ refuses (Ask 1) Outbid b ∷ []) → ⊥
  -- a broker without clients is at rest, and one that has turned no client away is not
  pub at_rest : AtRest new_broker []
  pub not_at_rest : AtRest (sharing 7 0) [] → ⊥
  -- client 1 has asked, whatever it was answered, and client 2 has not
  pub asked : (b : Broker) → Asked 1 (accepts (Leave 2) (Count 2) b ∷ refuses (Ask 1) NotAdmitted b ∷ [])
  pub not_asked : (b : Broker) → Asked 2 (accepts (Leave 2) (Count 2) b ∷ refuses (Ask 1) NotAdmitted b ∷ []) → ⊥
  -- the clock was at no more than 4 throughout, at the start and after each call, and at no more than 3 it was not
  pub throughout : Throughout (λ b. b.tick ≤ 4) (at_tick 3) (accepts (SetClock 4) (Count 0) (at_tick 4) ∷ [])
  pub not_at_end : Throughout (λ b. b.tick ≤ 3) (at_tick 3) (accepts (SetClock 4) (Count 0) (at_tick 4) ∷ []) → ⊥
  pub not_at_start : Throughout (λ b. 4 ≤ b.tick) (at_tick 3) (accepts (SetClock 4) (Count 0) (at_tick 4) ∷ []) → ⊥
  -- the greatest 32-bit number fits as a tick, and the next does not; a call that gives no tick always fits
  pub tick_fits : TickFits (SetClock (2 ^ 32 - 1)) × TickFits (SetEstimate 1 (record { active = 0; end = 2 ^ 32 - 1 }))
  pub too_late : (TickFits (SetClock (2 ^ 32)) → ⊥) × (TickFits (SetEstimate 1 (record { active = 0; end = 2 ^ 32 })) → ⊥)
  pub no_tick : (u F c : ℕ) (a : Admission) (s : SlipNumbers) →
      TickFits (Start u F) × TickFits (Admit a) × TickFits (Ask c) × TickFits (Deliver s) × TickFits (HandBack c) × TickFits (Leave c)
