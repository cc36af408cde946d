use Rattle.std.proofs.Common.{List, refl, subst, ◌∙◌, arith}
use Rattle.std.proofs.lemmas.List.{take_all}
use Rattle.worklists.specs.Growth.{Grows, FromOne}
use Rattle.worklists.proofs.Growing.{Grows-none, Grows-each}
use Rattle.class_form.specs.declared.class_file.Attribute.{Attribute}
use Rattle.constraint_rules.specs.Handlers.{IsCaughtIn}
use Rattle.constraint_rules.specs.Settings.{place_of}
use Rattle.constraint_rules.proofs.OfThrown.{catching_grown}
use Rattle.constraint_rules.proofs.handlers.push_catching.Goals as goal

pub loop-attribute-init : goal.loop-attribute-init
loop-attribute-init c = λ p s names set placed. Grows-none c.args.rules.now.items _ (λ r f. absurd (omega (arith, f.1.1)))

pub loop-attribute-preserved : goal.loop-attribute-preserved
loop-attribute-preserved c = λ p s names set placed.
    Grows-each (IsCaughtIn p s names (place_of c.args.x.now)) c.items-attribute-items.result.now c.loop-attribute.attribute-index c.attribute-item.result
    c.args.rules.now.items c.loop-attribute.rules.items c.push_content.new.rules.items
    c.loop-attribute-test.true c.attribute-item.is (c.loop-attribute.invariant p s names set placed) (c.in_ok-push_content.ensures p s names c.attribute-item.result set placed refl)

pub returns : goal.returns
returns c = λ p s names set placed.
    catching_grown c.args.t.now c.args.x.now p s names set placed c.args.rules.now.items c.loop-attribute.rules.items
    (subst (λ (ys : List Attribute). Grows c.args.rules.now.items c.loop-attribute.rules.items (FromOne (IsCaughtIn p s names (place_of c.args.x.now)) ys))
    (take_all c.loop-attribute.attribute-index c.items-attribute-items.result.now c.loop-attribute-test.false ∙ c.items-attribute-items.ensures) (c.loop-attribute.invariant p s names set placed))
