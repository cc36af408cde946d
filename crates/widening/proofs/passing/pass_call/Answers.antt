use Rattle.std.proofs.Common.{◌≡◌, ◌∙◌, ℕ, List, sym, subst}
use Rattle.std.specs.Prelude.{◌↔◌, Contains}
use Rattle.tabulate.specs.declared.method.Argument.{Argument}
use Rattle.tabulate.specs.Methods.{IsMet}
use Rattle.tabulate.proofs.ModeEdges.{exit_low}
use Rattle.worklists.specs.Growth.{FromOne}
use Rattle.worklists.proofs.Growing.{Grows-none, Grows-same}
use Rattle.widening.specs.Marks.{PassesTo, OverCall}
use Rattle.widening.proofs.CallLaws.{over_met, number_within, to_over, from_over}
use Rattle.widening.proofs.passing.pass_call.Goals as goal

pub owner-requires : goal.owner-requires
owner-requires c = exit_low c.args.f.now c.args.exit c.exit_node.result c.exit_node.ensures

pub returns-in_default : goal.returns-in_default
returns-in_default c = Grows-none c.args.into.now.items (OverCall c.args.f.now c.args.found.now.items c.args.exit c.args.call)
    (λ q h. c.in_default.ensures (subst (λ (m : ℕ). IsMet c.args.methods.now.items m) (sym c.owner.ensures.is) (over_met c.args.f.now c.args.methods.now.items c.args.found.now.items c.requires.found c.requires.met c.args.exit c.exit_node.result c.args.call q c.exit_node.ensures h)))

pub overflow_sub-number : goal.overflow_sub-number
overflow_sub-number c =
    let f = c.args.f.now in
    let x = c.exit_node.result in
    let at = c.exit_node.ensures in
    let callee = c.in-Some.callee.now in
    let is = c.in-Some.ensures.1 in
    let home = sym c.owner.ensures.is ∙ sym c.in-Some.ensures.2 in
    (number_within f callee is c.args.exit x at home).0

pub pass_each-requires-clause-arguments : goal.pass_each-requires-clause-arguments
pass_each-requires-clause-arguments c = λ a k. c.in-Some.ensures.1.arguments.each a (subst (λ (xs : List Argument). Contains xs a) c.as_slice.ensures.value ((c.arguments_of_call-arguments.ensures a).0 k).0)

pub pass_each-requires-clause-number : goal.pass_each-requires-clause-number
pass_each-requires-clause-number c =
    let f = c.args.f.now in
    let x = c.exit_node.result in
    let at = c.exit_node.ensures in
    let callee = c.in-Some.callee.now in
    let is = c.in-Some.ensures.1 in
    let home = sym c.owner.ensures.is ∙ sym c.in-Some.ensures.2 in
    (number_within f callee is c.args.exit x at home).2

pub returns : goal.returns
returns c =
    let f = c.args.f.now in
    let x = c.exit_node.result in
    let at = c.exit_node.ensures in
    let callee = c.in-Some.callee.now in
    let is = c.in-Some.ensures.1 in
    let home = sym c.owner.ensures.is ∙ sym c.in-Some.ensures.2 in
    let number = (number_within f callee is c.args.exit x at home).1 in
    let ts = c.args.found.now.items in
    let args : List Argument = c.arguments_of_call-arguments.result.now in
    let of_call : (a : Argument) → Contains args a ↔ (Contains callee.arguments.items a × (a.call ≡ c.args.call)) = λ a. subst (λ (xs : List Argument). Contains args a ↔ (Contains xs a × (a.call ≡ c.args.call))) c.as_slice.ensures.value (c.arguments_of_call-arguments.ensures a) in
    Grows-same c.args.into.now.items c.pass_each.new.into.items (FromOne (PassesTo f ts _) args) (OverCall f ts c.args.exit c.args.call)
    (to_over f ts callee is c.args.exit x at home _ number c.args.call args of_call) (from_over f ts callee is c.args.exit x at home _ number c.args.call args of_call) c.in_ok-pass_each.ensures
