use Rattle.std.proofs.Common.{◌^◌, ◌<◌, arith}
use Rattle.std.proofs.lemmas.Grind.{common_steps}
use Rattle.std.proofs.lemmas.List.{take_all}
use Rattle.std.proofs.lemmas.List.Elements.{All-from_get_or, recursion_from_All}
use Rattle.text.proofs.Kept.{joined}
use Rattle.events.proofs.FirstEighty.{length_spaced_numbers}
use Rattle.events.proofs.event.spell.Goals as goal

pub loop-n-preserved : goal.loop-n-preserved
loop-n-preserved c = grind (arith, common_steps, joined)

pub returns : goal.returns
returns c =
    let sized = recursion_from_All _ _ (All-from_get_or (λ n. n < 2 ^ 32) c.args.numbers.now 0 (λ i l. omega (arith, c.type_inv.numbers i))) in
    record {
      text = grind (arith, take_all, joined);
      short = λ few. omega (arith, few, length_spaced_numbers c.args.numbers.now sized);
      sized = sized;
    }
