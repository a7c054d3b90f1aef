use Rattle.std.proofs.Common.{rules}
use Rattle.session.specs.Session.{pool, admit, back, leave, estimate, clock}
use Rattle.session.proofs.Steps.{performed}
use Rattle.session.proofs.session.Session.perform.Goals as goal

pub returns-in-Start : goal.returns-in-Start
returns-in-Start g c = rw c.in-Start.is (performed _ (λ t. pool) (λ t p k. search rules) c.start.ensures c.map.ensures.cases)

pub returns-in-Admit : goal.returns-in-Admit
returns-in-Admit g c = rw c.in-Admit.is (performed _ (λ t. admit) (λ t p k. search rules) c.admit.ensures c.map-in-Admit.ensures.cases)

-- the call is not named here, so that another call in its place is refused for what it does
pub returns-in-HandBack : goal.returns-in-HandBack
returns-in-HandBack g c = rw c.in-HandBack.is (performed _ (λ t. back {f = t}) (λ t p k. search rules) (assumption c) c.map-in-HandBack.ensures.cases)

pub returns-in-Leave : goal.returns-in-Leave
returns-in-Leave g c = rw c.in-Leave.is (performed _ (λ t. leave) (λ t p k. search rules) c.leave.ensures c.map-in-Leave.ensures.cases)

pub returns-in-Estimate : goal.returns-in-Estimate
returns-in-Estimate g c = rw c.in-Estimate.is (performed _ (λ t. estimate) (λ t p k. search rules) c.estimate.ensures c.map-in-Estimate.ensures.cases)

pub returns-in-Clock : goal.returns-in-Clock
returns-in-Clock g c = rw c.in-Clock.is (performed _ (λ t. clock) (λ t p k. search rules) c.clock.ensures c.map-in-Clock.ensures.cases)
