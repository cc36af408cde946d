use Rattle.std.proofs.Common.{◌↔◌, subst}
use Rattle.std.specs.Prelude.{IsTrue}
use Rattle.class_form.specs.declared.class_file.Attribute.{Attribute}
use Rattle.call_graph.specs.ByNumber.{HasByteAt}
use Rattle.call_graph.proofs.Early.{none_at_all, none_more}
use Rattle.call_graph.proofs.refusals.has_byte_among.Goals as goal

pub loop-attribute-preserved : goal.loop-attribute-preserved
loop-attribute-preserved c = none_more (HasByteAt c.args.pc c.args.op) c.args.attributes.now c.loop-attribute.attribute-index c.has_byte.result c.attribute-item.result c.loop-attribute-test.true c.if-has_byte.false
    (subst (λ (a : Attribute). IsTrue c.has_byte.result ↔ HasByteAt c.args.pc c.args.op a) c.attribute-item.is c.has_byte.ensures) c.loop-attribute.invariant

pub returns : goal.returns
returns c = (λ e. absurd (cc e), λ h. absurd (none_at_all (HasByteAt c.args.pc c.args.op) c.args.attributes.now c.loop-attribute.attribute-index c.loop-attribute-test.false c.loop-attribute.invariant h))
