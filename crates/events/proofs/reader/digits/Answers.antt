use Rattle.std.proofs.Common.{◌≡◌, true, false, rules, tests}
use Rattle.std.specs.Char.{is_ascii_digit}
use Rattle.std.proofs.lemmas.Iterator.{IsFirst-from_position, YieldsList-from_slice}
use Rattle.events.proofs.DigitRuns.{run_to}
use Rattle.events.proofs.reader.digits.Goals as goal

pub returns : goal.returns
returns c =
    rw c.unwrap_or.ensures
    (run_to c.args.bytes.now c.position.result (IsFirst-from_position _ _ _ (λ b. is_ascii_digit b ≡ false) (λ b. is_ascii_digit b ≡ true) c.position.ensures.ran
    (YieldsList-from_slice c.args.bytes.now cc) (λ x q k. search (rules, tests)) (λ x q k. search (rules, tests))))
