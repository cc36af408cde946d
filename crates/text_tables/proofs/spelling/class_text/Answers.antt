use Rattle.text_tables.proofs.Answered.{ok_then}
use Rattle.text_tables.proofs.TypeTexts.{class_plain, class_arrays}
use Rattle.text_tables.proofs.spelling.class_text.Goals as goal

pub returns-then-dims-eq0 : goal.returns-then-dims-eq0
returns-then-dims-eq0 c = ok_then c.from_bytes.result _ _ c.from_bytes.ensures (λ x e. class_plain c.args.dims c.args.name.now x c.if-dims-eq0.true e)

pub returns-else-dims-eq0 : goal.returns-else-dims-eq0
returns-else-dims-eq0 c = ok_then c.class_descriptor.result _ _ c.class_descriptor.ensures (λ x e. class_arrays c.args.dims c.args.name.now x c.if-dims-eq0.false e)
