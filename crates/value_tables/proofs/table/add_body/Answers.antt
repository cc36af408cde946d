use Rattle.std.proofs.Common.{◌≡◌, ◌<◌, List, length, Some, sym, ap, subst, ◌∙◌, arith}
use Rattle.std.specs.Prelude.{slice_get}
use Rattle.std.proofs.lemmas.Bool.{false≢true}
use Rattle.std.proofs.lemmas.Result.{on_ok_weaker}
use Rattle.dep_form.specs.declared.rules.MethodVars.{MethodVars}
use Rattle.value_tables.proofs.Tabled.{body_in_range, method_is, not_reached, reached_body}
use Rattle.value_tables.proofs.table.add_body.Goals as goal

pub is_reached-requires : goal.is_reached-requires
is_reached-requires c =
    let (p, of, among) = c.requires.program in
    omega (arith, body_in_range p c.args.s.now of c.args.body.now among, c.requires.solved.methods)

pub returns-then-not-is_reached : goal.returns-then-not-is_reached
returns-then-not-is_reached c = λ p of among.
    not_reached p c.args.s.now c.args.body.now c.args.values.now.items (λ r. false≢true (sym c.if-not-is_reached.true ∙ (c.is_reached.ensures c.args.s.now c.requires.solved).1 r))

pub vars_at-requires : goal.vars_at-requires
vars_at-requires c =
    let (p, of, among) = c.requires.program in
    omega (arith, body_in_range p c.args.s.now of c.args.body.now among, ap (λ (ms : List MethodVars). length ms) c.items.ensures)

pub add_points-requires : goal.add_points-requires
add_points-requires c =
    let (p, of, among) = c.requires.program in
    method_is p _ of among c.requires.solved (subst (λ (ms : List MethodVars). slice_get ms c.args.body.now.method.0 ≡ Some c.vars_at.result.now) c.items.ensures c.vars_at.ensures) c.requires.few

pub returns : goal.returns
returns c = λ p of among.
    on_ok_weaker c.add_points.result (λ a. reached_body p c.args.s.now c.args.body.now c.args.values.now.items c.add_points.new.values.items ((c.is_reached.ensures c.args.s.now c.requires.solved).0 c.if-not-is_reached.false) a) (c.add_points.ensures p of among)
