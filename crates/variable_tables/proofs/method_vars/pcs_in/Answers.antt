use Rattle.std.proofs.lemmas.Result.{IfOk-weaker}
use Rattle.slicer_ids.specs.Sets.{IsOrderedListOf}
use Rattle.slicer_ids.proofs.GrowingOrder.{without}
use Rattle.variable_tables.specs.Statements.{Rises, BodyHas}
use Rattle.variable_tables.specs.Members.{MethodHas}
use Rattle.variable_tables.proofs.AtPc.{method_has}
use Rattle.variable_tables.proofs.method_vars.pcs_in.Goals as goal

pub returns-in-Some : goal.returns-in-Some
returns-in-Some c =
    let bodies = c.args.bodies.now in
    let kind = c.args.kind in
    let m = c.args.method in
    let b = c.in-Some.body.now in
    IfOk-weaker c.pcs_of.result (λ pcs. IsOrderedListOf Rises pcs.items (BodyHas kind b)) (λ pcs. IsOrderedListOf Rises pcs.items (MethodHas kind bodies m))
    (λ pcs o. method_has bodies c.requires.bodies.order kind m b pcs.items c.in-Some.ensures.found.0 c.in-Some.ensures.found.1 o) c.pcs_of.ensures

pub returns-in-None : goal.returns-in-None
returns-in-None c =
    without Rises c.new.result.items (MethodHas c.args.kind c.args.bodies.now c.args.method) c.new.ensures.items
    (λ pc (b, among, of, has). c.in-None.ensures.missed (b, among, of))
