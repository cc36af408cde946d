use Rattle.std.proofs.Common.{sym, ◌∙◌}
use Rattle.std.proofs.lemmas.Bool.{false≢true}
use Rattle.class_form.specs.Members.{key_of}
use Rattle.signature_tables.proofs.NamedTexts.{texts_named, not_named, no_member}
use Rattle.signature_tables.proofs.naming.texts_of.Goals as goal

pub returns-then-is_named : goal.returns-then-is_named
returns-then-is_named c = λ p t b k of at file.
    texts_named c.args.h.now p of t b c.args.instr.now k c.args.file.now at file c.args.wanted (key_of c.in-Some.field-0) (sym c.in-Some.ensures.key) ((c.is_named.ensures p of).0 c.if-is_named.true)

pub returns-else-is_named : goal.returns-else-is_named
returns-else-is_named c = λ p t b k of at file.
    not_named c.args.h.now p of t b c.args.instr.now k c.args.file.now at file c.args.wanted (key_of c.in-Some.field-0) (sym c.in-Some.ensures.key) (λ is. false≢true (sym c.if-is_named.false ∙ (c.is_named.ensures p of).1 is))

pub returns-in-None : goal.returns-in-None
returns-in-None c = λ p t b k of at file. no_member c.args.h.now p of t b c.args.instr.now k c.args.file.now at file c.args.wanted (sym c.in-None.ensures.key)
