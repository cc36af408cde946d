use Rattle.std.proofs.Common.{◌≡◌}
use Rattle.std.proofs.lemmas.Result.{IfOk-weaker}
use Rattle.slicer_ids.specs.Sets.{IsOrderedListOf}
use Rattle.worklists.specs.Growth.{FromOne}
use Rattle.method_facts.specs.Numbers.{HasNumber, LocBefore}
use Rattle.node_tables.specs.Statements.{IsChangedAt, IsUsedAt}
use Rattle.node_tables.proofs.Calls.{changed_listed, used_listed}
use Rattle.node_tables.proofs.statements.changed_at.Goals as goal

pub returns : goal.returns
returns c =
    let x = c.args.scene.now in
    let s = x.system.now in
    let mr = x.effects.now in
    let targets = c.targets_of-targets.result.now in
    IfOk-weaker c.in_any.result (λ ls. IsOrderedListOf LocBefore ls.items (FromOne (HasNumber c.items.result.now) targets)) (λ ls. IsOrderedListOf LocBefore ls.items (IsChangedAt s mr c.args.c))
    (λ ls o. changed_listed s mr c.args.c c.items.result.now targets (λ m. c.targets_of-targets.ensures s m c.requires.scene.solved) ls.items o c.items.ensures) c.in_any.ensures
