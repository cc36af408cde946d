use Rattle.std.proofs.Common.{subst}
use Rattle.dep_form.specs.Graphs.{HasInput, IsGraphIn}
use Rattle.dep_form.specs.LookUps.{IsMethodOfNode}
use Rattle.dep_form.specs.Slices.{ModeEdges}
use Rattle.worklists.proofs.Growing.{Grows-same}
use Rattle.thin_slice.specs.Marks.{found}
use Rattle.thin_slice.specs.Steps.{PassesBy}
use Rattle.thin_slice.specs.Over.{ByRow}
use Rattle.thin_slice.proofs.Callees.{method_is, passes_by_row, row_passes}
use Rattle.thin_slice.proofs.over.over_exit.Goals as goal

pub formals-formals-requires : goal.formals-formals-requires
formals-formals-requires g c =
    let k = c.requires.callee in
    subst (λ m. HasInput c.args.f.now.inputs m) (method_is c.args.f.now k.0 c.args.graph.now k.2) (k.2.0, k.2.1)

pub over_row-requires-clause-callee : goal.over_row-requires-clause-callee
over_row-requires-clause-callee g c =
    let k = c.requires.callee in
    let f = c.args.f.now in
    let is = method_is f k.0 c.args.graph.now k.2 in
    (c.args.graph.now.method, c.args.x, c.requires.exit, subst (λ m. IsMethodOfNode f.inputs c.args.x m) is k.1, subst (λ m. IsGraphIn f.inputs m c.args.graph.now) is k.2, c.formals-formals.ensures)

pub returns-clause-grown : goal.returns-clause-grown
returns-clause-grown g c =
    let k = c.requires.callee in
    let f = c.args.f.now in
    let graph = c.args.graph.now in
    let formals = c.formals-formals.result in
    let is = method_is f k.0 graph k.2 in
    let of = subst (λ m. IsMethodOfNode f.inputs c.args.x m) is k.1 in
    let graph_is = subst (λ m. IsGraphIn f.inputs m graph) is k.2 in
    Grows-same (found c.args.nodes.now) (found c.over_row.new.nodes) (ByRow f c.args.mode c.args.e c.args.c.call graph formals) (PassesBy (ModeEdges f.inputs c.args.mode) c.args.c.call c.args.x)
    (row_passes f c.args.mode c.args.e c.args.x c.args.c.call graph.method graph formals c.requires.exit of graph_is c.formals-formals.ensures)
    (passes_by_row f c.args.mode c.args.e c.args.x c.args.c.call graph.method graph formals c.requires.exit of graph_is c.formals-formals.ensures)
    c.over_row.ensures.grown
