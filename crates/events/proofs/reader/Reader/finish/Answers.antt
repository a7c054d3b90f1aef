use Rattle.std.proofs.Common.{length, refl, ap, arith}
use Rattle.std.proofs.lemmas.List.{length-drop}
use Rattle.events.proofs.reader.Reader.finish.Goals as goal

pub returns-then-self : goal.returns-then-self
returns-then-self c =
    let line = c.args.self.now.line.now in
    (refl, λ none. omega (arith, ap length none, length-drop c.args.self.now.at line, c.if-self.true))
