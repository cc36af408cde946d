use Rattle.std.proofs.Common.{◌≡◌, ◌<◌, ◌≤◌, ◌+◌, ◌^◌, ℕ, List, AllPairs, Some, length, sym, ap, subst, arith}
use Rattle.std.specs.Prelude.{slice_get}
use Rattle.std.proofs.lemmas.Result.{on_ok_weaker}
use Rattle.class_form.specs.declared.body.Point.{Point}
use Rattle.dep_form.specs.Nodes.{ComesBefore}
use Rattle.dep_form.specs.declared.node.Node.{Node}
use Rattle.dep_form.specs.declared.rules.MethodVars.{MethodVars}
use Rattle.input_tables.specs.Edges.{AreRaises}
use Rattle.value_tables.specs.declared.method.Method.{Method}
use Rattle.value_tables.proofs.Tabled.{body_in_range, method_is}
use Rattle.access_tables.specs.Tables.{AddsAccesses, HasAccess, HasOwnNodes, IsAccessInBody}
use Rattle.access_tables.proofs.Accessed.{points_rise}
use Rattle.access_tables.proofs.table.add_method.Goals as goal

pub vars_at-requires : goal.vars_at-requires
vars_at-requires c =
    let (p, of, among) = c.requires.program in
    omega (arith, body_in_range p c.args.s.now of c.args.body.now among, ap (λ (ms : List MethodVars). length ms) c.items.ensures)

pub add_points-requires : goal.add_points-requires
add_points-requires c =
    let (p, of, among) = c.requires.program in
    let x : Method = record { system = c.args.s; solution = c.args.sol; body = c.args.body; vars = c.vars_at.result } in
    let method = method_is p x of among c.requires.solved (subst (λ (ms : List MethodVars). slice_get ms c.args.body.now.method.0 ≡ Some c.vars_at.result.now) c.items.ensures c.vars_at.ensures) c.requires.few in
    record {
      method = method;
      ground = record {
        points = points_rise c.items-points.result.now (subst (λ (qs : List Point). AllPairs (λ (a b : Point). a.pc < b.pc) qs) (sym c.items-points.ensures) method.points);
        few = c.few_points.ensures c.if-not-few_points.false;
        raises = subst (λ (xs : List (ℕ × ℕ)). AreRaises c.items-points.result.now xs) (sym c.as_slice.ensures.value) c.in_ok-raises.ensures;
        row = subst (λ (ks : List Node). AllPairs ComesBefore ks) (sym c.items-2.ensures) c.requires.order;
        small = subst (λ (ks : List Node). length ks < 2 ^ 32) (sym c.items-2.ensures) c.args.input.now.few;
        numbers = subst (λ (ks : List Node). c.args.input.now.first.0 + length ks ≤ 2 ^ 32) (sym c.items-2.ensures) c.args.input.now.small;
      };
      points = c.items-points.ensures;
    }

pub returns : goal.returns
returns c = λ p has own.
    on_ok_weaker c.add_points.result
    (λ a. subst (λ (ks : List Node). AddsAccesses c.args.accesses.now.items c.add_points.new.accesses.items (IsAccessInBody c.args.body.now) (HasAccess p c.args.s.now c.args.input.now.first.0 ks)) c.items-2.ensures a)
    (c.add_points.ensures p has (subst (λ (ks : List Node). HasOwnNodes ks c.args.body.now) (sym c.items-2.ensures) own))
