use Rattle.std.proofs.Common.{◌∙◌, ◌+◌, take, get_or, Contains, arith}
use Rattle.slicer_ids.specs.declared.ids.Statement.{Statement}
use Rattle.dep_form.specs.Inputs.{BelongsTo}
use Rattle.dep_form.specs.Slices.{NodesOf}
use Rattle.widening.proofs.OpenLaws.{opens_none, opens_then, nodes_more, nodes_less}
use Rattle.widening.proofs.expansions.add_statements.Goals as goal

pub loop-statement-init : goal.loop-statement-init
loop-statement-init c = opens_none _ _ _ (λ n h. omega (arith, h.1.1))

pub loop-statement-preserved : goal.loop-statement-preserved
loop-statement-preserved c =
    let f = c.args.f.now in
    let ss = c.args.statements.now in
    let k = c.loop-statement.statement-index in
    let d : Statement = record { method = record { 0 = 0 }; pc = 0 } in
    opens_then (NodesOf f.inputs (Contains (take k ss))) (λ m. BelongsTo f.inputs m (get_or ss k d)) (NodesOf f.inputs (Contains (take (k + 1) ss))) c.args.marks.now.items c.loop-statement.marks.items c.add_statement.new.marks.items c.args.into.now.items c.loop-statement.into.items c.add_statement.new.into.items
    (nodes_more f ss k d c.loop-statement-test.true) (nodes_less f ss k d c.loop-statement-test.true) c.loop-statement.invariant c.in_ok-add_statement.ensures

pub add_statement-requires : goal.add_statement-requires
add_statement-requires c = c.loop-statement.invariant.len ∙ c.requires
