use Rattle.std.proofs.Common.{List, subst, arith}
use Rattle.std.proofs.lemmas.List.{take_all}
use Rattle.worklists.specs.Growth.{Grows, FromOne}
use Rattle.worklists.proofs.Growing.{Grows-none, Grows-more}
use Rattle.class_form.specs.declared.body.Def.{Def}
use Rattle.program_form.specs.Facts.{variable_of}
use Rattle.program_form.specs.Systems.{VariableNumber}
use Rattle.constraint_rules.proofs.definitions.push_numbers.Goals as goal

pub loop-def-init : goal.loop-def-init
loop-def-init c = λ p s has. Grows-none c.args.vars.now.items _ (λ x f. absurd (omega (arith, f.1.1)))

pub loop-def-preserved : goal.loop-def-preserved
loop-def-preserved c = λ p s has.
    Grows-more (λ (d : Def). VariableNumber p s (variable_of c.args.method d)) c.args.defs.now c.loop-def.def-index _
    c.args.vars.now.items c.loop-def.vars.items c.push_number.new.vars.items
    c.loop-def-test.true (c.loop-def.invariant p s has) (c.in_ok-push_number.ensures p s has)

pub returns : goal.returns
returns c = λ p s has.
    subst (λ (ys : List Def). Grows c.args.vars.now.items c.loop-def.vars.items (FromOne (λ (d : Def). VariableNumber p s (variable_of c.args.method d)) ys))
    (take_all c.loop-def.def-index c.args.defs.now c.loop-def-test.false) (c.loop-def.invariant p s has)
