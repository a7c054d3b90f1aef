use Rattle.std.proofs.Common.{rules}
use Rattle.session.specs.Session.{meaning}
use Rattle.session.proofs.Holding.{unpriced}
use Rattle.session.proofs.session.Session.held.Goals as goal

pub returns-in_err-price : goal.returns-in_err-price
returns-in_err-price g c =
    rw c.from_residual-in_err-price.ensures
    (unpriced (meaning c.args.self.now) c.args.self.now.broker.pool c.args.client c.in_ok-frames.frames (search rules) c.price_at.result c.price_at.ensures (search rules))
