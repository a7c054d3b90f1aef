use Rattle.family.proofs.alone.each_of_several_brokers_keeps_the_guarantees.Goals as goal
use Rattle.family.proofs.Performing.{families_keep_guarantees}

pub returns : goal.returns
returns c = families_keep_guarantees
