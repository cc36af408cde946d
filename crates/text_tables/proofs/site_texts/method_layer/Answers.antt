use Rattle.std.proofs.Common.{ap, ◌∙◌}
use Rattle.class_form.specs.Types.{IsMethodType}
use Rattle.class_form.specs.declared.types.MethodType.{MethodType}
use Rattle.class_form.proofs.OneType.{one_method_type}
use Rattle.text_tables.proofs.Answered.{ok_then, no_value}
use Rattle.text_tables.proofs.site_texts.method_layer.Goals as goal

pub returns-in-Ok : goal.returns-in-Ok
returns-in-Ok c = ok_then c.result_layer.result _ _ c.result_layer.ensures
    (λ x h n t is e. h t (ap (λ (z : MethodType). z.result) (one_method_type c.args.descriptor.now c.in-Ok.m n c.in-Ok.ensures is) ∙ e))

pub returns-in-Err : goal.returns-in-Err
returns-in-Err c = ok_then c.unread.result _ _ c.unread.ensures (λ x other n t is e. absurd (no_value IsMethodType c.args.descriptor.now c.in-Err.e c.in-Err.ensures other n is))
