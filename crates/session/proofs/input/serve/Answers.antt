use Rattle.session.proofs.Inputs.{served}
use Rattle.session.proofs.input.serve.Goals as goal

pub returns : goal.returns
returns g c =
    let printed = rw c.deref.ensures.value at c.in_ok-_session.ensures.0 in
    record { served = served _ g.W.Write.contents _ _ c.flush.result c.in_ok-input.ensures.bytes printed c.flush.ensures.bytes c.flush.ensures.ok }
