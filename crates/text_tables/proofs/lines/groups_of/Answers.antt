use Rattle.std.proofs.Common.{◌++◌, ℕ, List, arith, sym, subst}
use Rattle.slicer_ids.specs.declared.ids.ClassId.{ClassId}
use Rattle.slicer_ids.specs.declared.ids.Statement.{Statement}
use Rattle.text_tables.specs.LineGroups.{AreRuns}
use Rattle.text_tables.proofs.LineTables.{all_groups}
use Rattle.text_tables.proofs.lines.groups_of.Goals as goal

pub loop-rest-init : goal.loop-rest-init
loop-rest-init c = λ more h. subst (λ (gs : List (ClassId × ℕ × List Statement)). AreRuns c.args.places.now (gs ++ more)) (sym c.new-groups.ensures.items) h

pub loop-rest-preserved : goal.loop-rest-preserved
loop-rest-preserved c = λ more h.
    let w = c.in_ok-rest.ensures.runs more h in
    subst (AreRuns c.args.places.now) (sym w.2) (c.loop-rest.invariant w.0 w.1)

pub returns : goal.returns
returns c = all_groups c.args.places.now c.loop-rest.rest.now c.loop-rest.groups.items (omega (arith, c.loop-rest-test.false)) c.loop-rest.invariant
