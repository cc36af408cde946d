use Rattle.std.proofs.Common.{sym, ◌∙◌}
use Rattle.std.proofs.lemmas.Bool.{false≢true}
use Rattle.class_form.specs.Opcodes.{IsVirtualCall}
use Rattle.constraint_rules.proofs.OfKind.{one_of_kind, none_of_kind}
use Rattle.constraint_rules.proofs.OfCalls.{virtual_one}
use Rattle.constraint_rules.proofs.calls.selecting.Goals as goal

pub returns-then-not-is_virtual : goal.returns-then-not-is_virtual
returns-then-not-is_virtual c = λ p s names set placed. none_of_kind c.args.t.now c.args.x.now p s names set placed IsVirtualCall _ (λ is. false≢true (sym c.if-not-is_virtual.true ∙ c.is_virtual.ensures.1 is))

pub returns : goal.returns
returns c = λ p s names set placed.
    one_of_kind c.args.t.now c.args.x.now p s names set placed IsVirtualCall _ c.virtual_of.result (c.is_virtual.ensures.0 c.if-not-is_virtual.false)
    (virtual_one _ _ _ _ c.virtual_of.result (c.call_number.ensures p s names set) (c.signature.ensures p s names set placed) c.virtual_of.ensures)
