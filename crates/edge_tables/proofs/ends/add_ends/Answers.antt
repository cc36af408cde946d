use Rattle.std.proofs.Common.{◌≡◌, List, Contains, Some, sym, ap, subst, ◌∙◌}
use Rattle.std.specs.Prelude.{option_map}
use Rattle.std.proofs.lemmas.Option.{same_Some}
use Rattle.slicer_ids.specs.declared.ids.MethodId.{MethodId}
use Rattle.class_form.specs.declared.class_file.CodeBody.{CodeBody}
use Rattle.program_form.specs.Programs.{CodeOf}
use Rattle.mod_ref.proofs.Gaining.{gains_none}
use Rattle.edge_tables.specs.Ends.{EndFlow}
use Rattle.edge_tables.specs.Rows.{IsLocalEdge}
use Rattle.edge_tables.proofs.EndFlows.{no_ends}
use Rattle.edge_tables.proofs.ends.add_ends.Goals as goal

pub returns-in-None : goal.returns-in-None
returns-in-None c = λ p of.
    gains_none c.args.edges.now.items (IsLocalEdge c.args.row.now.first c.args.row.now.nodes.now (EndFlow p c.args.m))
    (no_ends p c.args.m c.args.row.now.first c.args.row.now.nodes.now (λ b among method.
    let (z, has) = of.asked.coded b among in
    let found = c.code_of.ensures p z of.classes_are of.coded (subst (λ (m : MethodId). CodeOf p m z) method has) in
    cc (sym (ap (λ o. option_map (λ k. k.now) o) c.in-None.is) ∙ found)))

pub returns-in-Some : goal.returns-in-Some
returns-in-Some c = λ p of.
    c.add_exits.ensures p of (λ z has.
    let found = c.code_of.ensures p z of.classes_are of.coded has in
    let same : c.in-Some.code.now ≡ z = same_Some c.in-Some.code.now z (sym (ap (λ o. option_map (λ k. k.now) o) c.in-Some.is) ∙ found) in
    c.items.ensures ∙ ap (λ (y : CodeBody). y.handlers) same)
