use Rattle.std.proofs.Common.{◌<◌, length, None, refl, ap, ◌∙◌, arith}
use Rattle.std.proofs.lemmas.List.{get_or_default}
use Rattle.laws.specs.ByNumber.{upto}
use Rattle.pool.specs.Records.{shares_in}
use Rattle.pool.specs.Members.{member_of}
use Rattle.pool.proofs.Records.{upto_few, upto_next, few_shares}
use Rattle.pool.proofs.members.Members.shares.Goals as goal
use Rattle.pool.proofs.members.Members.shares.Goals.{in-Some, in_default}

pub loop-member-init : goal.loop-member-init
unfolding upto
loop-member-init c = refl

pub overflow_add-shares : goal.overflow_add-shares
overflow_add-shares c =
    let t = c.args.self.now in
    let few = upto_few 1_000_000 c.loop-member.member-index (λ d. shares_in (member_of t d)) (λ d. few_shares (member_of t d)) in
    record { fits = omega (arith, c.loop-member.invariant, few, t.places) }

pub loop-member-preserved : goal.loop-member-preserved
loop-member-preserved c =
    let t = c.args.self.now in
    let i = c.loop-member.member-index in
    let here : i < length t.table = omega (arith, t.places) in
    let item = get_or_default t.table i None c.member-item.result here in
    let next = upto_next i (λ d. shares_in (member_of t d)) in
    elim c.match-member.branch [
      | in-Some w ↦ omega (arith, c.loop-member.invariant, next, ap shares_in (item ∙ w.in-Some.is))
      | in_default w ↦ omega (arith, c.loop-member.invariant, next, ap shares_in (item ∙ w.in_default.is))
    ]
