use Rattle.heap.proofs.Parts.{root_within, root_least}
use Rattle.heap.proofs.records.root.Goals as goal

pub returns : goal.returns
returns g c =
    let first = c.in_ok-owner.ensures.item in (
      root_within _ _ _ c.requires _ first.3.0 first.1,
      root_least _ _ _ c.requires _ first.3.0 first.1 (record { total = g.met.K.Order.total; chain = g.met.K.Order.chain }) c.index-records-owner.result,
    )
