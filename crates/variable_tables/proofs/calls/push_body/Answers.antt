use Rattle.std.proofs.Common.{subst}
use Rattle.std.proofs.lemmas.List.Elements.{All-contains}
use Rattle.slicer_ids.specs.Order.{StatementBefore}
use Rattle.variable_tables.specs.Statements.{BodyHas}
use Rattle.variable_tables.specs.declared.kinds.Kind.TheVariants.{Calls}
use Rattle.variable_tables.specs.Growth.{GrowsInOrder}
use Rattle.variable_tables.specs.Members.{IsAmong, IsCallIn}
use Rattle.variable_tables.proofs.InOrder.{grows_same}
use Rattle.variable_tables.proofs.calls.push_body.Goals as goal

pub returns : goal.returns
returns c =
    let b = c.args.body.now in
    let pcs = c.in_ok-pcs.pcs.items in
    let are = c.in_ok-pcs.ensures in
    grows_same StatementBefore (λ x. ⊥) c.args.calls.now.items c.push_all.new.calls.items (IsAmong b.method pcs) (IsCallIn b) (λ x. ⊥)
    (λ t a. (a.0, All-contains (BodyHas Calls b) pcs t.pc are.each a.1)) (λ t a. (a.0, are.whole t.pc a.1)) (λ t a n. n) (λ t a n. n)
    (subst (λ ps. GrowsInOrder StatementBefore c.args.calls.now.items c.push_all.new.calls.items (IsAmong b.method ps)) c.as_slice.ensures.value c.in_ok-push_all.ensures)
