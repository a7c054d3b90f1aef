use Rattle.std.proofs.Common.{Ok, Err, Result, ◌∙◌, arith, rules}
use Rattle.std.specs.Result.{IsOk, OnOk}
use Rattle.text.proofs.Kept.{room_kept}
use Rattle.text.proofs.text.Text.bytes.Goals as goal

-- what is known of a call that succeeds
succeeded : {T E P : Type 0} (r : Result T E) → IsOk r → OnOk r P → P
succeeded (Ok x) is known = known
succeeded (Err e) is known = cc

pub returns : goal.returns
returns c =
    let fits = c.try_extend_from_slice-fits.ensures in
    succeeded _ (fits.variant.1 (search (rules, arith))) fits.ok ∙ room_kept _ _ _ _ c.remaining_capacity.ensures c.min-fitting.ensures
