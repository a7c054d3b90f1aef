use Rattle.std.proofs.Common.{sym, refl}
use Rattle.events.proofs.OneVerdict.{one_verdict}
use Rattle.events.proofs.event.Event.write.Goals as goal

pub returns-clause-round_trip : goal.returns-clause-round_trip
returns-clause-round_trip c =
    record {
      event = λ v h. one_verdict _ v _ h (c.add_to.ensures.sized, refl);
      line = λ line h. sym h.1;
    }
