use Rattle.std.proofs.lemmas.Result.{err_from_is_err_and}
use Rattle.session.proofs.Steps.{refused_call}
use Rattle.session.proofs.Asks.{delivers, has_prices, ask_printed}
use Rattle.session.proofs.session.Session.ask.Goals as goal

pub returns-in_err-slip : goal.returns-in_err-slip
returns-in_err-slip g c =
    let p = err_from_is_err_and c.from_residual.result c.from_residual.ensures.1 in
    rw (p.1, p.2) (refused_call c.in_err-slip.ensures.step)

pub quote-requires : goal.quote-requires
quote-requires g c = rw c.numbers-granted.ensures (has_prices c.in_ok-slip.ensures.step c.in_ok-slip.ensures.opens).0

pub taken-requires : goal.taken-requires
taken-requires g c = rw c.numbers-granted.ensures (has_prices c.in_ok-slip.ensures.step c.in_ok-slip.ensures.opens).1

pub unwrap-requires : goal.unwrap-requires
unwrap-requires g c = delivers c.deliver.result c.in_ok-slip.ensures.opens.0 c.deliver.ensures.step

pub returns : goal.returns
returns g c =
    let is = c.numbers-granted.ensures in
    rw is (ask_printed c.in_ok-slip.ensures.step c.in_ok-slip.ensures.opens (rw c.unwrap.ensures at c.deliver.ensures.step) (rw is at c.quote.ensures) (rw is at c.taken.ensures))
