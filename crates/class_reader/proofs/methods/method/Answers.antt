use Rattle.std.proofs.Common.{◌∙◌, sym}
use Rattle.class_reader.proofs.NewMembers.{method_there}
use Rattle.class_reader.proofs.methods.method.Goals as goal

pub is_new-requires-clause-name : goal.is_new-requires-clause-name
is_new-requires-clause-name c = (method_there c.args.pool.now c.in_ok-name.name c.in_ok-descriptor.descriptor (sym c.are_method_texts.ensures ∙ c.if-not-are_method_texts.false)).0

pub is_new-requires-clause-descriptor : goal.is_new-requires-clause-descriptor
is_new-requires-clause-descriptor c = (method_there c.args.pool.now c.in_ok-name.name c.in_ok-descriptor.descriptor (sym c.are_method_texts.ensures ∙ c.if-not-are_method_texts.false)).1

pub returns-clause-texts : goal.returns-clause-texts
returns-clause-texts c = method_there c.args.pool.now c.in_ok-name.name c.in_ok-descriptor.descriptor (sym c.are_method_texts.ensures ∙ c.if-not-are_method_texts.false)
