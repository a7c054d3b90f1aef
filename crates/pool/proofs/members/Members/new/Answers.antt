use Rattle.std.proofs.Common.{refl, sym, ap, ◌∙◌}
use Rattle.pool.specs.Ends.{tick_of}
use Rattle.pool.specs.Records.{end_in}
use Rattle.pool.proofs.Records.{nobody, nothing_summed}
use Rattle.pool.proofs.members.Members.new.Goals as goal

pub invariant_of-result : goal.invariant_of-result
invariant_of-result c =
    record {
      places = refl;
      summed = nothing_summed;
      ends_kept = λ d. ap tick_of (c.new.ensures d) ∙ sym (ap end_in (nobody 256 d));
    }

pub returns : goal.returns
returns c = nobody 256
