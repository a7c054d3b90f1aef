use Rattle.std.proofs.Common.{sym, ◌∙◌, arith}
use Rattle.heap.proofs.Orders.{key_laws}
use Rattle.heap.proofs.Trees.{gap, added}
use Rattle.heap.proofs.Writes.{rekeyed, place_read}
use Rattle.heap.proofs.Members.{some_in}
use Rattle.heap.proofs.Room.{room}
use Rattle.heap.proofs.Changes.{rekeyed_indexed, rekeyed_apart, rekeyed_keys, added_indexed, added_apart, added_keys}
use Rattle.heap.proofs.records.put.Goals as goal

pub sift-requires : goal.sift-requires
sift-requires g c =
    let x = c.requires.0.0 in
    let r = rekeyed _ _ c.index-records-owner.result c.args.key c.requires.1 in
    let p = place_read _ _ c.index-records-owner-then-was_in.result (omega (arith, r.long)) ∙ r.places c.args.owner in
    let l = (some_in _ _ _ (sym (c.if-was_in.ensures))).low in
    record {
      within = (rekeyed_indexed _ _ _ _ _ r x, omega (arith, p, l));
      gap = gap (key_laws g.met.K.Order.total g.met.K.Order.chain) _ _ _ _ _ (omega arith) (omega (arith, p, l)) c.requires.0.1 (λ k h d. rekeyed_apart _ _ _ _ _ r x k h (λ e. d (e ∙ sym p)));
    }

pub place_owner-requires : goal.place_owner-requires
place_owner-requires g c =
    let r = rekeyed _ _ c.index-records-owner.result c.args.key c.requires.1 in
    omega (arith, room _ _ _ c.requires.0.0 c.requires.1 (sym (c.if-was_in.ensures)), r.long)

pub sift_up-requires : goal.sift_up-requires
sift_up-requires g c =
    let x = c.requires.0.0 in
    let r = rekeyed _ _ c.index-records-owner.result c.args.key c.requires.1 in
    let out = sym (c.if-was_in.ensures) in
    record {
      within = (added_indexed _ _ _ _ _ r _ c.place_owner.ensures x c.requires.1 out, omega arith);
      rises = added (key_laws g.met.K.Order.total g.met.K.Order.chain) _ _ _ c.requires.0.1 (added_apart _ _ _ _ _ r _ c.place_owner.ensures x c.requires.1 out);
    }

pub returns-then-was_in : goal.returns-then-was_in
returns-then-was_in g c =
    let r = rekeyed _ _ c.index-records-owner.result c.args.key c.requires.1 in
    let there = sym (c.if-was_in.ensures) in
    record {
      heap = c.sift.ensures.heap;
      map = λ q. c.sift.ensures.map q ∙ rekeyed_keys _ _ _ _ _ r (some_in _ _ _ there) q;
      count = rw there (omega arith);
      long = c.sift.auto.records ∙ r.long;
    }

pub returns-else-was_in : goal.returns-else-was_in
returns-else-was_in g c =
    let r = rekeyed _ _ c.index-records-owner.result c.args.key c.requires.1 in
    let out = sym (c.if-was_in.ensures) in
    record {
      heap = c.sift_up.ensures.heap;
      map = λ q. c.sift_up.ensures.map q ∙ added_keys _ _ _ _ _ r _ c.place_owner.ensures c.requires.0.0 c.requires.1 out q;
      count = rw out (omega arith);
      long = c.sift_up.auto.records ∙ (c.place_owner.ensures.long ∙ r.long);
    }
