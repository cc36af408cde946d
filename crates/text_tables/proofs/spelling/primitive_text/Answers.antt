use Rattle.text_tables.proofs.Answered.{ok_then}
use Rattle.text_tables.proofs.TypeTexts.{primitive_named}
use Rattle.text_tables.proofs.spelling.primitive_text.Goals as goal

pub returns : goal.returns
returns c = ok_then c.primitive_descriptor.result _ _ c.primitive_descriptor.ensures (λ x e. primitive_named c.args.dims c.args.letter x e)
