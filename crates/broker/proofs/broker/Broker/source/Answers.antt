use Rattle.std.proofs.Common.{sym, ◌∙◌, arith}
use Rattle.broker.proofs.Asks.{nobody_lower, taken_below, taken_above, outbid_by_lowest}
use Rattle.broker.proofs.broker.Broker.source.Goals as goal

pub returns-in_default : goal.returns-in_default
returns-in_default g c = nobody_lower c.args.self.now c.args.client c.in_ok-member.ensures.0 (omega arith) c.in_default.ensures

pub returns-then-not-ranks_above : goal.returns-then-not-ranks_above
returns-then-not-ranks_above g c =
    let (clear, it) = c.in_ok-member.ensures in
    outbid_by_lowest c.args.self.now c.args.client clear (omega arith) _ c.in-Some.ensures it c.frames_of-holding.ensures c.bid-bid.ensures
    c.if-holding-member.true (sym c.if-not-ranks_above.ensures)

pub returns-else-not-ranks_above : goal.returns-else-not-ranks_above
returns-else-not-ranks_above g c =
    let (clear, it) = c.in_ok-member.ensures in
    taken_above c.args.self.now c.args.client clear (omega arith) _ c.in-Some.ensures it c.frames_of-holding.ensures c.bid-bid.ensures (g.met.P.Price.lawful _)
    (sym c.ranks_above.ensures ∙ c.if-not-ranks_above.false)

pub returns-else-holding-member : goal.returns-else-holding-member
returns-else-holding-member g c =
    let (clear, it) = c.in_ok-member.ensures in
    taken_below c.args.self.now c.args.client clear (omega arith) _ c.in-Some.ensures it c.frames_of-holding.ensures (g.met.P.Price.lawful _) c.if-holding-member.false
