use Rattle.std.proofs.Common.{sym, ◌∙◌}
use Rattle.std.proofs.lemmas.Bool.{false≢true}
use Rattle.std.proofs.lemmas.Result.{on_ok_weaker}
use Rattle.access_tables.specs.Tables.{HasAccess}
use Rattle.access_tables.proofs.Produced.{access_is}
use Rattle.access_tables.proofs.Accessed.{point_added, point_skipped}
use Rattle.access_tables.proofs.table.add_point.Goals as goal

pub returns-then-not-is_access : goal.returns-then-not-is_access
returns-then-not-is_access c = λ p (of, files, among) own has.
    let x = c.args.scene.now in
    point_skipped (HasAccess p x.method.system.now x.ground.first x.ground.row.now) x.method.body.now.method c.args.accesses.now.items c.args.point.now
    (λ h. false≢true (sym c.if-not-is_access.true ∙ c.is_access.ensures.1 h))

pub returns : goal.returns
returns c = λ p (of, files, among) own has.
    let x = c.args.scene.now in
    let q = c.args.point.now in
    let access = c.is_access.ensures.0 c.if-not-is_access.false in
    on_ok_weaker c.push.result
    (λ e. point_added (HasAccess p x.method.system.now x.ground.first x.ground.row.now) x.method.body.now.method c.args.accesses.now.items c.push.new.accesses.items q c.in_ok-access.access access
    (access_is p of.coded files x c.requires among q has (own q has) access c.in_ok-access.access c.in_ok-access.ensures) e) c.push.ensures
