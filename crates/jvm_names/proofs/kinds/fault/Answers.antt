use Rattle.std.proofs.Common.{◌≡◌, false, Some, ap, sym, ◌∙◌}
use Rattle.class_form.specs.NameTests.{reached, go_on_descriptor, is_end}
use Rattle.class_form.proofs.Steps.{all_taken}
use Rattle.jvm_names.specs.States.{state_of}
use Rattle.jvm_names.proofs.kinds.fault.Goals as goal

pub returns-else-is_end : goal.returns-else-is_end
returns-else-is_end c =
    let bytes = c.args.bytes.now in
    let leads : reached go_on_descriptor (state_of c.args.start) bytes ≡ Some (state_of c.in-Ok.state) = c.in-Ok.ensures in
    let not_end : is_end (Some (state_of c.in-Ok.state)) ≡ false = cc in
    (ap is_end leads ∙ not_end, sym (all_taken go_on_descriptor (state_of c.args.start) (state_of c.in-Ok.state) bytes leads))
