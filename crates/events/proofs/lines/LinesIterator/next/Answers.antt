use Rattle.std.proofs.Common.{◌≡◌, length, get_or, take, min, arith, rules, tests, ap, ◌∙◌, subst, false-eqb}
use Rattle.std.proofs.lemmas.List.{take_all}
use Rattle.events.specs.Input.{NoNewline}
use Rattle.events.proofs.OneCut.{no_newline, ended_line, last_line, line_head}
use Rattle.events.proofs.lines.LinesIterator.next.Goals as goal
use Rattle.events.proofs.lines.LinesIterator.next.Goals.{in-Some, in-None}

pub returns-clause-steps : goal.returns-clause-steps
returns-clause-steps c =
    let text = c.args.self.now.rest.now in
    elim c.match-memchr.branch [
      | in-Some w ↦
          let found = w.in-Some.ensures in
          let plain = no_newline w.in-Some.end text (λ k before within ten. found.0.before k (omega arith) before (search (rules, tests))) in
          let newline : get_or text w.in-Some.end 0 ≡ 10 = search (rules, tests) in
          let size = c.min.ensures ∙ ap (λ cut. min (length cut.0.now) 80) w.t-9-is in
          rw w.t-9-is (take w.in-Some.end text, line_head _ _ size, ended_line text _ found.0.high plain newline)
      | in-None w ↦
          let none = w.in-None.ensures in
          let plain = no_newline (length text) text (λ k before within ten. none k (omega arith) before (search (rules, tests))) in
          let size = c.min.ensures ∙ ap (λ cut. min (length cut.0.now) 80) w.t-9-is in
          rw w.t-9-is (text, line_head _ _ size, last_line text (omega (arith, false-eqb (length text) 0 c.if-is_empty.ensures)) (subst NoNewline (take_all _ text (omega arith)) plain))
    ]
