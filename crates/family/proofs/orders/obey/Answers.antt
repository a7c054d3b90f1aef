use Rattle.std.proofs.Common.{refl}
use Rattle.std.proofs.lemmas.Option.{slice_get-get_or}
use Rattle.family.proofs.orders.obey.Goals as goal

pub returns : goal.returns
returns g c =
    record {
      before = _;
      after = c.perform.new.self;
      there = slice_get-get_or c.args.brokers.now c.args.order.broker c.index-brokers-order.result c.if-order-brokers.false;
      called = c.perform.ensures;
      others = refl;
    }
