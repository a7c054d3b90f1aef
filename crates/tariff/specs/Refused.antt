-- What is wrong where a sheet is refused.
--
-- refused   the fault of a refusal
use Rattle.rules.specs.declared.refusal.Refusal.{Refusal}
use Rattle.rules.specs.declared.refusal.Refusal.TheVariants.{RateOutOfRange, CountOutOfRange}
use Rattle.tariff.specs.declared.fault.Fault.{Fault}
use Rattle.tariff.specs.declared.fault.Fault.TheVariants.{HighRate, LongSheet, Refused}

abbrev pub refused : Refusal → Fault
refused RateOutOfRange = HighRate
refused CountOutOfRange = LongSheet
refused r = Refused r
