use Rattle.std.proofs.Common.{◌++◌, ◌∷◌, [], List, sym, subst, append_assoc, take}
use Rattle.std.proofs.lemmas.List.{append-nil, take_more, take_all}
use Rattle.class_form.specs.declared.body.Def.{Def}
use Rattle.variable_tables.specs.Operands.{IsSeen}
use Rattle.variable_tables.proofs.alone.with_defs.Goals as goal

pub loop-def-init : goal.loop-def-init
loop-def-init c = λ ds seen. subst (λ (zs : List Def). IsSeen zs c.args.seen) (sym (append-nil ds)) seen

pub loop-def-preserved : goal.loop-def-preserved
loop-def-preserved c = λ ds seen.
    let i = c.loop-def.def-index in
    let defs = c.args.defs.now in
    subst (λ (zs : List Def). IsSeen (ds ++ zs) c.with_def-all.result) (sym (take_more defs i _ c.loop-def-test.true))
    (subst (λ (zs : List Def). IsSeen zs c.with_def-all.result) (append_assoc ds (take i defs) (_ ∷ [])) (c.with_def-all.ensures (ds ++ take i defs) (c.loop-def.invariant ds seen)))

pub returns : goal.returns
returns c = λ ds seen.
    subst (λ (zs : List Def). IsSeen (ds ++ zs) c.loop-def.all) (take_all c.loop-def.def-index c.args.defs.now c.loop-def-test.false) (c.loop-def.invariant ds seen)
