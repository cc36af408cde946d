use Rattle.std.proofs.Common.{List, sym, subst}
use Rattle.dep_form.specs.declared.node.Node.{Node}
use Rattle.input_tables.specs.Uses.{AreGetsOf, ArePutsOf}
use Rattle.input_lists.specs.Inputs.{HasRow}
use Rattle.input_lists.proofs.method.input_of.Goals as goal

pub made-requires-clause-row : goal.made-requires-clause-row
made-requires-clause-row c = subst (λ (ns : List Node). HasRow c.args.scene.now c.args.m c.args.row.now.first ns) (sym c.in_ok-nodes.ensures) c.requires.row

pub made-requires-clause-puts : goal.made-requires-clause-puts
made-requires-clause-puts c =
    let x = c.args.scene.now in
    subst (λ (ns : List Node). ArePutsOf x.edges.bodies.now x.effects.system.now x.effects.effects.now c.args.m c.args.row.now.first ns c.in_ok-puts.puts.items) (sym c.in_ok-nodes.ensures) c.in_ok-puts.ensures.members

pub made-requires-clause-gets : goal.made-requires-clause-gets
made-requires-clause-gets c =
    let x = c.args.scene.now in
    subst (λ (ns : List Node). AreGetsOf x.edges.bodies.now x.effects.system.now x.effects.effects.now c.args.m c.args.row.now.first ns c.in_ok-gets.gets.items) (sym c.in_ok-nodes.ensures) c.in_ok-gets.ensures.members
