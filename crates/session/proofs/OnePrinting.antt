-- One thing is printed of an input, by the same calls.
use Rattle.std.proofs.Common.{◌≡◌, ℕ, ◌+◌, List, Some, Ok, Err, refl, arith}
use Rattle.rules.specs.Offers.{Meaning}
use Rattle.events.specs.declared.event.Event.{Event}
use Rattle.events.proofs.OneCut.{one_cut}
use Rattle.events.proofs.OneVerdict.{one_verdict}
use Rattle.laws.specs.Broker.{Broker}
use Rattle.laws.specs.Calls.{Answer}
use Rattle.laws.proofs.One.{one_answer}
use Rattle.pool.specs.View.{IsNextClient}
use Rattle.session.specs.declared.printed.Printed.{Printed}
use Rattle.session.specs.declared.printed.Reported.{Reported}
use Rattle.session.specs.Session as session
use Rattle.session.specs.Session.{Calls, Outcome, Prints, Performs, LinePerforms}
use Rattle.session.specs.Input.{ReportsClients, Reports, LinesPrint, PrintsAll, end, next, none, then}

-- the same is printed, by the same calls, and the same broker is left
abbrev Same : {A : Type 0} → A → A → Calls → Calls → Broker → Broker → Type 0
Same r q h k d w = (r ≡ q) × (h ≡ k) × (d ≡ w)

prints_one : {e : Event} {a : Answer} {p q : Printed} → Prints e a p → Prints e a q → p ≡ q
prints_one session.pool session.pool = refl
prints_one session.admit session.admit = refl
prints_one session.back session.back = refl
prints_one session.leave session.leave = refl
prints_one session.estimate session.estimate = refl
prints_one session.clock session.clock = refl

module _ (m : Meaning) (b : Broker) where
  event_once : {e : Event} {r q : Outcome} {h k : Calls} {d w : Broker} → Performs m b e r h d → Performs m b e q k w → Same r q h k d w
  event_once (session.called {a = x} s p) (session.called {a = y} t q) =
      let (answers, brokers) = one_answer m b _ _ _ _ _ s t in
      let same : x ≡ y = cc in
      let printed = prints_one (rw same at p) q in
      (cc, cc, brokers)
  event_once (session.called s p) (session.granted t u) = elim p [ ]
  event_once (session.granted s t) (session.called u p) = elim p [ ]
  event_once {d = d} {w = w} (session.granted {s = x} {g = g} s t) (session.granted {s = y} {g = f} u v) =
      let (answers, brokers) = one_answer m b _ _ _ g f s u in
      let slips : x ≡ y = cc in
      let left = (one_answer m f _ _ _ d w (rw (slips, brokers) at t) v).1 in
      (cc, cc, left)
  event_once (session.refused s) (session.refused t) = let (answers, brokers) = one_answer m b _ _ _ _ _ s t in (cc, cc, brokers)
  event_once (session.called s p) (session.refused t) = let z = (one_answer m b _ _ _ _ _ s t).0 in (cc, cc, cc)
  event_once (session.granted s u) (session.refused t) = let z = (one_answer m b _ _ _ _ _ s t).0 in (cc, cc, cc)
  event_once (session.refused s) (session.called t p) = let z = (one_answer m b _ _ _ _ _ s t).0 in (cc, cc, cc)
  event_once (session.refused s) (session.granted t u) = let z = (one_answer m b _ _ _ _ _ s t).0 in (cc, cc, cc)

  line_once : {text : List ℕ} {r q : Outcome} {h k : Calls} {d w : Broker} → LinePerforms m b text r h d → LinePerforms m b text q k w → Same r q h k d w
  line_once {text} (session.performed {e = e} v s) (session.performed {e = f} u t) =
      let same : e ≡ f = (let z = one_verdict text (Ok e) (Ok f) v u in cc) in
      event_once (rw same at s) t
  line_once {text} (session.performed {e = e} v s) (session.malformed {r = o} u) = let z = one_verdict text (Ok e) (Err o) v u in (cc, cc, cc)
  line_once {text} (session.malformed {r = o} u) (session.performed {e = e} v s) = let z = one_verdict text (Ok e) (Err o) v u in (cc, cc, cc)
  line_once {text} (session.malformed {r = o} u) (session.malformed {r = p} v) = let z = one_verdict text (Err o) (Err p) u v in (cc, refl, refl)

  next_once : (n c d : ℕ) → IsNextClient b n (Some c) → IsNextClient b n (Some d) → c ≡ d
  next_once n c d x y = grind arith

  clients_once : (n : ℕ) (rs qs : List Reported) → ReportsClients m b n rs → ReportsClients m b n qs → rs ≡ qs
  clients_once n rs qs (end x) (end y) = refl
  clients_once n rs qs (end x) (next {c = c} y more) = absurd (y.1 (x c y.0))
  clients_once n rs qs (next {c = c} y more) (end x) = absurd (y.1 (x c y.0))
  clients_once n rs qs (next {c = c} {rs = us} x more) (next {c = d} {rs = ts} y rest) =
      let same = next_once n c d x y in
      let tails = clients_once d us ts (rw same at more) rest in
      cc

  report_once : {rs qs : List Reported} → Reports m b rs → Reports m b qs → rs ≡ qs
  report_once (us, by, e) (ts, too, f) = let same = clients_once 0 us ts by too in cc

lines_once : (m : Meaning) (b : Broker) (n : ℕ) {texts : List (List ℕ)} {vs ws : List Printed} {h k : Calls} {d w : Broker} →
    LinesPrint m b n texts vs h d → LinesPrint m b n texts ws k w → Same vs ws h k d w
lines_once m b n none none = (refl, refl, refl)
lines_once m b n (then (r, e, x) more) (then {d = w} (o, f, y) rest) =
    let (heads, calls, brokers) = line_once m b x y in
    let (tails, others, left) = lines_once m w (n + 1) (rw brokers at more) rest in
    (cc, cc, left)

pub prints_once : (m : Meaning) (input : List ℕ) (vs ws : List Printed) (rs qs : List Reported) (h k : Calls) (d w : Broker) → PrintsAll m input vs rs h d → PrintsAll m input ws qs k w → (vs ≡ ws) × (rs ≡ qs) × (h ≡ k) × (d ≡ w)
prints_once m input vs ws rs qs h k d w p q =
    let (values, calls, brokers) = lines_once m _ 1 (rw (one_cut input p.texts q.texts p.cut q.cut) at p.performs) q.performs in
    (values, report_once m w (rw brokers at p.reports) q.reports, calls, brokers)
