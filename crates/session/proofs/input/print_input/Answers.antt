use Rattle.session.proofs.Inputs.{input_printed}
use Rattle.session.proofs.input.print_input.Goals as goal

pub returns : goal.returns
returns g c =
    input_printed c.args.price c.args.input.now _ _ _ c.new-session.ensures.view c.new-session.ensures.guarantees c.new-session.ensures.price c.in_ok-print_lines.ensures.ok
    c.in_ok-print_report.ensures
