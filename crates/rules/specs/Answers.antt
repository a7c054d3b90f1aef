-- What an answer holds.
--
-- slip_of   the slip of an ask that is granted, and none of another answer
use Rattle.std.specs.Prelude.{Some, None, Option}
use Rattle.rules.specs.declared.call.Answer.{Answer}
use Rattle.rules.specs.declared.call.Answer.TheVariants.{Done, Granted, Frame, Count}
use Rattle.rules.specs.declared.call.SlipNumbers.{SlipNumbers}

abbrev pub slip_of : Answer → Option SlipNumbers
slip_of Done = None
slip_of (Granted s) = Some s
slip_of (Frame f) = None
slip_of (Count n) = None
