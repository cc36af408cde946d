use Rattle.std.proofs.Common.{◌≡◌, Bool, Some, sym, subst, ◌∙◌}
use Rattle.std.proofs.lemmas.Option.{same_Some}
use Rattle.std.proofs.lemmas.Result.{IfOk-weaker}
use Rattle.node_tables.specs.Rows.{AtMethod, AtReached, IsCounted}
use Rattle.node_tables.proofs.NodeCounts.{counted_none, counted_same}
use Rattle.node_tables.proofs.counts.count_reached.Goals as goal

pub returns-then-is_reached : goal.returns-then-is_reached
returns-then-is_reached c =
    let x = c.args.scene.now in
    let m = c.args.m in
    let b = c.answers.result in
    let reached = (c.is_reached.ensures x.system.now c.requires.scene.solved).0 c.if-is_reached.true in
    IfOk-weaker c.count_method.result (λ k. IsCounted (AtMethod x m b) k.nodes k.formals k.exits) (λ k. IsCounted (AtReached x m) k.nodes k.formals k.exits)
    (λ k o. counted_same (AtMethod x m b) (AtReached x m) k.nodes k.formals k.exits (λ n h. (reached, (b, c.answers.ensures, h)))
    (λ n h. subst (λ (z : Bool). AtMethod x m z n) (same_Some h.1.0 b (sym h.1.1 ∙ c.answers.ensures)) h.1.2) o) c.count_method.ensures

pub returns-else-is_reached : goal.returns-else-is_reached
returns-else-is_reached c =
    let x = c.args.scene.now in
    counted_none (AtReached x c.args.m) (λ n h. let yes = (c.is_reached.ensures x.system.now c.requires.scene.solved).1 h.0 in absurd (cc (sym yes ∙ c.if-is_reached.false)))
