use Rattle.session.proofs.LineExamples.{all_worked_examples}
use Rattle.session.proofs.examples.all_worked_examples_hold.Goals as goal

pub returns : goal.returns
returns c = all_worked_examples
