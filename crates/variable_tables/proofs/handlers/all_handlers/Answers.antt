use Rattle.std.proofs.Common.{ℕ, List, [], refl, sym, subst, arith, Contains}
use Rattle.std.specs.Prelude.{◌↔◌}
use Rattle.class_form.specs.declared.class_file.Attribute.{Attribute}
use Rattle.worklists.specs.Growth.{Grows, FromOne}
use Rattle.worklists.proofs.Growing.{Grows-none, Grows-each, of_whole}
use Rattle.variable_tables.specs.Statements.{IsPcOfAttribute}
use Rattle.variable_tables.proofs.handlers.all_handlers.Goals as goal

pub loop-attribute-init : goal.loop-attribute-init
loop-attribute-init c =
    subst (λ (zs : List ℕ). Grows [] zs (FromOne IsPcOfAttribute [])) (sym c.new-pcs.ensures.items) (Grows-none [] (FromOne IsPcOfAttribute []) (λ k f. absurd (omega (arith, f.1.1))))

pub loop-attribute-preserved : goal.loop-attribute-preserved
loop-attribute-preserved c =
    Grows-each IsPcOfAttribute c.items-attribute-items.result.now c.loop-attribute.attribute-index c.attribute-item.result [] c.loop-attribute.pcs.items c.push_attribute.new.pcs.items
    c.loop-attribute-test.true c.attribute-item.is c.loop-attribute.invariant c.in_ok-push_attribute.ensures

pub returns : goal.returns
returns c = λ pc.
    subst (λ (zs : List Attribute). (Contains c.loop-attribute.pcs.items pc) ↔ (FromOne IsPcOfAttribute zs pc)) c.items-attribute-items.ensures
    (of_whole IsPcOfAttribute c.items-attribute-items.result.now c.loop-attribute.attribute-index [] c.loop-attribute.pcs.items refl c.loop-attribute-test.false c.loop-attribute.invariant pc)
