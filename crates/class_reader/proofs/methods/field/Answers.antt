use Rattle.std.proofs.Common.{◌∙◌, sym}
use Rattle.class_reader.proofs.NewMembers.{field_there}
use Rattle.class_reader.proofs.methods.field.Goals as goal

pub is_new-requires-clause-name : goal.is_new-requires-clause-name
is_new-requires-clause-name c = (field_there c.args.pool.now c.in_ok-name.name c.in_ok-descriptor.descriptor (sym c.are_field_texts.ensures ∙ c.if-not-are_field_texts.false)).0

pub is_new-requires-clause-descriptor : goal.is_new-requires-clause-descriptor
is_new-requires-clause-descriptor c = (field_there c.args.pool.now c.in_ok-name.name c.in_ok-descriptor.descriptor (sym c.are_field_texts.ensures ∙ c.if-not-are_field_texts.false)).1

pub returns-clause-texts : goal.returns-clause-texts
returns-clause-texts c = field_there c.args.pool.now c.in_ok-name.name c.in_ok-descriptor.descriptor (sym c.are_field_texts.ensures ∙ c.if-not-are_field_texts.false)
