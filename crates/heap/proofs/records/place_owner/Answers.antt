use Rattle.heap.proofs.Writes.{owner_placed}
use Rattle.heap.proofs.records.place_owner.Goals as goal

pub returns : goal.returns
returns g c = owner_placed _ _ _ c.index-records-i.result c.index-records-owner.result c.requires.0 c.requires.1
