-- Every line has one verdict at most.
use Rattle.std.proofs.Common.{◌≡◌, ℕ, ◌+◌, ◌-◌, ◌^◌, ◌<◌, ◌≤◌, cond, eqb, ltb, List, [], ◌∷◌, ◌++◌, length, get_or, Ok, Err, decimal, Result, sym, refl, ap, ◌∙◌, subst, append_assoc, append-nil, arith}
use Rattle.std.specs.List.{flat_map, AllByRecursion}
use Rattle.std.proofs.lemmas.Fmt.{decimal_injective}
use Rattle.std.proofs.lemmas.Bool.Decides.{nat_tests}
use Rattle.rules.specs.declared.refusal.Fault.{Fault}
use Rattle.rules.specs.declared.refusal.FaultKind.{FaultKind}
use Rattle.rules.specs.declared.refusal.FaultKind.TheVariants as fault
use Rattle.rules.specs.declared.refusal.Refusal.{Refusal}
use Rattle.rules.specs.declared.refusal.Refusal.TheVariants.{Malformed}
use Rattle.events.specs.declared.word.Due.TheVariants as due
use Rattle.events.specs.Grammar.{EventKind, letter, number_count, NoDigit, spaced, line_of, IsMissing}
use Rattle.events.specs.Grammar as kinds
use Rattle.events.specs.Events.{Event, Start, Admit, Ask, HandBack, Leave, Estimate, Clock, event_kind, event_numbers, event_line}
use Rattle.events.specs.Faults.{Begins, LastStops, FirstFault, no_letter, no_space, no_number, no_end, Verdict, fault_at}
use Rattle.events.proofs.DigitRuns.{decimal_digits, one_run}

same_kind : (k j : EventKind) → letter k ≡ letter j → k ≡ j
same_kind k j e = grind arith

-- no further number stands here
abbrev NoMore : List ℕ → Type 0
NoMore rest = (n : ℕ) (more : List ℕ) → n < 2 ^ 32 → rest ≡ spaced n ++ more → NoDigit more → ⊥

stops_next : (n : ℕ) (ns rest : List ℕ) → LastStops (n ∷ ns) rest → NoDigit (flat_map spaced ns ++ rest)
stops_next n [] rest e = e
stops_next n (m ∷ ns) rest e = refl

stops_rest : (n : ℕ) (ns rest : List ℕ) → LastStops (n ∷ ns) rest → LastStops ns rest
stops_rest n [] rest e = tt
stops_rest n (m ∷ ns) rest e = e

-- of two ways to read numbers from one text, both going as far as they can, there is one
one_way : (c : ℕ) (ns ms rest more : List ℕ) → length ns ≤ c → length ms ≤ c →
    (length ns < c → NoMore rest) → (length ms < c → NoMore more) →
    AllByRecursion (λ n. n < 2 ^ 32) ns → AllByRecursion (λ n. n < 2 ^ 32) ms → LastStops ns rest → LastStops ms more →
    flat_map spaced ns ++ rest ≡ flat_map spaced ms ++ more → (ns ≡ ms) × (rest ≡ more)
one_way c [] [] rest more p q f g s t u v e = (refl, e)
one_way c [] (m ∷ ms) rest more p q f g s t u v e =
    absurd (f (omega arith) m (flat_map spaced ms ++ more) t.0 (e ∙ append_assoc (spaced m) (flat_map spaced ms) more) (stops_next m ms more v))
one_way c (n ∷ ns) [] rest more p q f g s t u v e =
    absurd (g (omega arith) n (flat_map spaced ns ++ rest) s.0 (sym e ∙ append_assoc (spaced n) (flat_map spaced ns) rest) (stops_next n ns rest u))
one_way c (n ∷ ns) (m ∷ ms) rest more p q f g s t u v e =
    let digits : decimal n ++ (flat_map spaced ns ++ rest) ≡ decimal m ++ (flat_map spaced ms ++ more) =
    cc (append_assoc (spaced n) (flat_map spaced ns) rest, append_assoc (spaced m) (flat_map spaced ms) more) in
    let run = one_run (decimal n) (decimal m) _ _ (decimal_digits n s.0) (decimal_digits m t.0) (stops_next n ns rest u) (stops_next m ms more v) digits in
    let number = decimal_injective n m (omega (arith, s.0)) (omega (arith, t.0)) run.0 in
    let tail = one_way (c - 1) ns ms rest more (omega arith) (omega arith) (λ h. f (omega arith)) (λ h. g (omega arith)) s.1 t.1 (stops_rest n ns rest u) (stops_rest m ms more v) run.1 in
    let numbers_same = tail.0 in
    (cc, tail.1)

-- the event of a kind with these numbers
abbrev event_of : EventKind → List ℕ → Event
event_of kinds.Start ns = Start (get_or ns 0 0) (get_or ns 1 0)
event_of kinds.Admit ns =
    Admit (record { client = get_or ns 0 0; shares = get_or ns 1 0; class = get_or ns 2 0; minimum = get_or ns 3 0; maximum = get_or ns 4 0 })
event_of kinds.Ask ns = Ask (get_or ns 0 0)
event_of kinds.HandBack ns = HandBack (get_or ns 0 0)
event_of kinds.Leave ns = Leave (get_or ns 0 0)
event_of kinds.Estimate ns = Estimate (get_or ns 0 0) (record { active = get_or ns 1 0; end = get_or ns 2 0 })
event_of kinds.Clock ns = Clock (get_or ns 0 0)

event_again : (e : Event) → event_of (event_kind e) (event_numbers e) ≡ e
event_again (Start unit frames) = refl
event_again e = refl

pub numbers_counted : (e : Event) → length (event_numbers e) ≡ number_count (event_kind e)
numbers_counted (Start unit frames) = refl
numbers_counted e = refl

abbrev refused_at : FaultKind → ℕ → Result Event Refusal
refused_at k c = Err (Malformed (fault_at k c))

-- the verdict on a line that was read as far as it could be
abbrev verdict_at : EventKind → List ℕ → List ℕ → Result Event Refusal
verdict_at k ns [] = cond (ltb (length ns) (number_count k)) (refused_at fault.Space (length (line_of k ns) + 1)) (Ok (event_of k ns))
verdict_at k ns (b ∷ bs) =
    cond
    (ltb (length ns) (number_count k))
    (cond (eqb b 32) (refused_at fault.Number (length (line_of k ns) + 2)) (refused_at fault.Space (length (line_of k ns) + 1)))
    (refused_at fault.Excess (length (line_of k ns) + 1))

verdict_at_space : (k : EventKind) (ns rest : List ℕ) → length ns < number_count k → IsMissing due.Separator rest → refused_at fault.Space (length (line_of k ns) + 1) ≡ verdict_at k ns rest
verdict_at_space k ns [] few missing = grind (arith, nat_tests)
verdict_at_space k ns (b ∷ bs) few missing = let other = missing bs in grind (arith, nat_tests)

verdict_at_end : (k : EventKind) (ns rest : List ℕ) → length ns ≡ number_count k → (rest ≡ [] → ⊥) → refused_at fault.Excess (length (line_of k ns) + 1) ≡ verdict_at k ns rest
verdict_at_end k ns [] all more = absurd (more refl)
verdict_at_end k ns (b ∷ bs) all more = grind (arith, nat_tests)

-- how a verdict is reached: at once for want of a letter, or as far as the line could be read
data Stop (l : List ℕ) (r : Result Event Refusal) : Type 0 where
  at_letter : IsMissing due.Letter l → r ≡ refused_at fault.Letter 1 → Stop l r
  later : (k : EventKind) (ns rest : List ℕ) → Begins l k ns rest → length ns ≤ number_count k → (length ns < number_count k → NoMore rest) → r ≡ verdict_at k ns rest → Stop l r

stop_fault : (l : List ℕ) (f : Fault) → FirstFault l f → Stop l (Err (Malformed f))
stop_fault l f (no_letter missing) = at_letter missing refl
stop_fault l f (no_space {k} {ns} {rest} begins few missing) =
    later k ns rest begins (omega arith) (λ h n more small e stops. missing (decimal n ++ more) e) (verdict_at_space k ns rest few missing)
stop_fault l f (no_number {k} {ns} {rest} begins few missing) =
    later k ns (32 ∷ rest) begins (omega arith) (λ h n more small e stops. missing n more small (let same : rest ≡ decimal n ++ more = cc in same) stops) (grind (arith, nat_tests))
stop_fault l f (no_end {k} {ns} {rest} begins all more) = later k ns rest begins (omega arith) (λ h. absurd (omega arith)) (verdict_at_end k ns rest all more)

stop : (l : List ℕ) (r : Result Event Refusal) → Verdict l r → Stop l r
stop l (Ok e) v =
    let all = numbers_counted e in
    let begins : Begins l (event_kind e) (event_numbers e) [] = record { whole = v.1 ∙ sym (append-nil (event_line e)); sized = v.0; stops = stops_rest 0 (event_numbers e) [] tt } in
    later (event_kind e) (event_numbers e) [] begins (omega arith) (λ h. absurd (omega arith)) (ap Ok (sym (event_again e)) ∙ grind (arith, nat_tests))
stop l (Err r) v = subst (λ x. Stop l (Err x)) (sym v.1) (stop_fault l v.0 v.2)

pub one_verdict : (l : List ℕ) (r s : Result Event Refusal) → Verdict l r → Verdict l s → r ≡ s
one_verdict l r s v w = go (stop l r v) (stop l s w)
  where
    go : Stop l r → Stop l s → r ≡ s
    go (at_letter missing e) (at_letter _ f) = e ∙ sym f
    go (at_letter missing e) (later k ns rest b few final f) = absurd (missing k _ b.whole)
    go (later k ns rest b few final e) (at_letter missing f) = absurd (missing k _ b.whole)
    go (later k ns rest b few final e) (later j ms more d fewer last f) =
        let whole : letter k ∷ (flat_map spaced ns ++ rest) ≡ letter j ∷ (flat_map spaced ms ++ more) = sym b.whole ∙ d.whole in
        let letters : letter k ≡ letter j = cc in
        let kinds_same = same_kind k j letters in
        let counts = ap number_count kinds_same in
        let tails : flat_map spaced ns ++ rest ≡ flat_map spaced ms ++ more = cc in
        let one = one_way (number_count k) ns ms rest more few (omega arith) final (λ h. last (omega arith)) b.sized d.sized b.stops d.stops tails in
        let numbers_same = one.0 in
        let rest_same = one.1 in
        cc
