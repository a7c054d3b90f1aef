use Rattle.std.proofs.Common.{arith}
use Rattle.std.proofs.lemmas.List.{get_or_default}
use Rattle.family.proofs.Performing.{sofar_none, sofar_one, all_done}
use Rattle.family.proofs.perform.perform_all.Goals as goal

pub loop-i-init : goal.loop-i-init
loop-i-init g c = sofar_none c.args.brokers.now c.renew_all.new.brokers c.args.orders.now c.args.outcomes.now c.renew_all.ensures

pub loop-i-preserved : goal.loop-i-preserved
loop-i-preserved g c =
    sofar_one c.loop-i.invariant (omega arith) c.loop-i-test.true (get_or_default c.args.orders.now c.loop-i.i _ _ c.loop-i-test.true) c.obey.result c.obey.ensures

pub returns-clause-performed : goal.returns-clause-performed
returns-clause-performed g c = all_done c.loop-i.invariant g.met.P.Price.lawful (omega arith)
