use Rattle.std.proofs.Common.{◌≡◌, Bool, List, Some, sym, subst, ◌∙◌}
use Rattle.std.proofs.lemmas.Option.{same_Some}
use Rattle.std.proofs.lemmas.Result.{IfOk-weaker}
use Rattle.slicer_ids.specs.Sets.{IsOrderedListOf}
use Rattle.dep_form.specs.declared.node.Node.{Node}
use Rattle.dep_form.specs.Nodes.{ComesBefore}
use Rattle.node_tables.specs.Rows.{AtMethod, AtReached}
use Rattle.node_tables.proofs.Joining.{ordered_none, ordered_same}
use Rattle.node_tables.proofs.tables.method_row.Goals as goal

pub returns-then-is_reached : goal.returns-then-is_reached
returns-then-is_reached c =
    let x = c.args.scene.now in
    let m = c.args.m in
    let b = c.answers.result in
    let reached = (c.is_reached.ensures x.system.now c.requires.scene.solved).0 c.if-is_reached.true in
    IfOk-weaker c.method_nodes.result (λ ns. IsOrderedListOf ComesBefore ns.items (AtMethod x m b)) (λ ns. IsOrderedListOf ComesBefore ns.items (AtReached x m))
    (λ ns o. ordered_same ComesBefore ns.items (AtMethod x m b) (AtReached x m) (λ n h. (reached, (b, c.answers.ensures, h)))
    (λ n h. subst (λ (z : Bool). AtMethod x m z n) (same_Some h.1.0 b (sym h.1.1 ∙ c.answers.ensures)) h.1.2) o) c.method_nodes.ensures

pub returns-else-is_reached : goal.returns-else-is_reached
returns-else-is_reached c =
    let x = c.args.scene.now in
    subst (λ (ns : List Node). IsOrderedListOf ComesBefore ns (AtReached x c.args.m)) (sym c.new.ensures.items)
    (ordered_none ComesBefore (AtReached x c.args.m) (λ n h. let yes = (c.is_reached.ensures x.system.now c.requires.scene.solved).1 h.0 in absurd (cc (sym yes ∙ c.if-is_reached.false))))
