-- What a history tells of a client's holding and of the open passage.
--
-- comes_or_goes   the event admits the client or lets it go
-- since           the events since the client was admitted, or left
-- slip_to         the answer is the slip of an ask of the client
-- slip_from       the answer is a slip that names the client as former owner
-- hands_back      the call is a hand-back of the client, and accepted
-- gained          how many slips answered the client's asks
-- lost            how many slips named it as former owner
-- returned        how many frames it handed back
-- AskedLast       the last call accepted is the ask that this slip answers
use Rattle.std.specs.Prelude.{◌≡◌, ℕ, cond, false, Bool, ◌⊎◌, List, [], ◌∷◌, count_by, Ok, Result, ◌==◌}
use Rattle.rules.specs.declared.refusal.Refusal.{Refusal}
use Rattle.laws.specs.Broker.{SlipNumbers}
use Rattle.laws.specs.Calls.{Call, Admit, Ask, HandBack, Leave, Answer, Granted}
use Rattle.laws.specs.Histories.{Event, IsRefused}

abbrev pub comes_or_goes : ℕ → Result Answer Refusal → Call → Bool
comes_or_goes c (Ok a) (Admit x) = x.client == c
comes_or_goes c (Ok a) (Leave d) = d == c
comes_or_goes c a x = false

unfoldable pub since : ℕ → List Event → List Event
since c [] = []
since c (e ∷ h) = cond (comes_or_goes c e.answer e.call) [] (e ∷ since c h)

abbrev pub slip_to : ℕ → Result Answer Refusal → Bool
slip_to c (Ok (Granted s)) = s.client == c
slip_to c a = false

abbrev pub slip_from : ℕ → Result Answer Refusal → Bool
slip_from c (Ok (Granted s)) = s.former == c
slip_from c a = false

abbrev pub hands_back : ℕ → Result Answer Refusal → Call → Bool
hands_back c (Ok a) (HandBack d) = d == c
hands_back c a x = false

abbrev pub gained : ℕ → List Event → ℕ
gained c h = count_by (λ e. slip_to c e.answer) h

abbrev pub lost : ℕ → List Event → ℕ
lost c h = count_by (λ e. slip_from c e.answer) h

abbrev pub returned : ℕ → List Event → ℕ
returned c h = count_by (λ e. hands_back c e.answer e.call) h

abbrev pub AskedLast : SlipNumbers → List Event → Type 0
AskedLast s [] = ⊥
AskedLast s (e ∷ h) = ((e.call ≡ Ask s.client) × (e.answer ≡ Ok (Granted s))) ⊎ (IsRefused e.answer × AskedLast s h)
