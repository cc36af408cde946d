use Rattle.std.proofs.Common.{◌↔◌, refl, subst}
use Rattle.std.specs.Prelude.{IsTrue}
use Rattle.class_form.specs.declared.class_file.Attribute.{Attribute}
use Rattle.call_graph.specs.Looking.{IsCodeAttribute}
use Rattle.call_graph.proofs.Early.{found_here, none_at_all, none_more}
use Rattle.call_graph.proofs.texts.has_code.Goals as goal

pub loop-attribute-preserved : goal.loop-attribute-preserved
loop-attribute-preserved c = none_more IsCodeAttribute c.args.attributes.now c.loop-attribute.attribute-index c.is_code.result c.attribute-item.result c.loop-attribute-test.true c.if-is_code.false
    (subst (λ (a : Attribute). IsTrue c.is_code.result ↔ IsCodeAttribute a) c.attribute-item.is c.is_code.ensures) c.loop-attribute.invariant

pub returns-then-is_code : goal.returns-then-is_code
returns-then-is_code c = (λ e. found_here IsCodeAttribute c.args.attributes.now c.loop-attribute.attribute-index c.attribute-item.result c.loop-attribute-test.true (subst IsCodeAttribute c.attribute-item.is (c.is_code.ensures.0 c.if-is_code.true)), λ h. refl)

pub returns : goal.returns
returns c = (λ e. absurd (cc e), λ h. absurd (none_at_all IsCodeAttribute c.args.attributes.now c.loop-attribute.attribute-index c.loop-attribute-test.false c.loop-attribute.invariant h))
