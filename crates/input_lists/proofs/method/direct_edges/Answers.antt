use Rattle.std.proofs.Common.{List, All, inl, inr, sym, subst}
use Rattle.class_form.specs.ClassRules.{IsClassFile}
use Rattle.class_form.specs.declared.class_file.ClassFile.{ClassFile}
use Rattle.input_lists.proofs.Direct.{all_direct, direct_all}
use Rattle.input_lists.proofs.method.direct_edges.Goals as goal

pub returns-clause-members : goal.returns-clause-members
returns-clause-members c = λ p of e.
    let y = c.args.scene.now in
    let s = y.edges.system.now in
    let files = subst (λ (ks : List ClassFile). All IsClassFile ks) (sym of.0.classes_are) c.requires.scene.numbered.edges.files in
    let operands = c.in_ok-edges.ensures.members p of.0.bodies_are of.0.coded files e in
    let all = c.in_ok-add_edges.ensures p of.0 e in
    let to = all_direct p s y.edges.entries.now y.edges.rows.now y.edges.firsts.now c.args.m c.args.row.now.first c.args.row.now.nodes.now c.requires.row.0 e in
    let from = direct_all p s y.edges.entries.now y.edges.rows.now y.edges.firsts.now c.args.m c.args.row.now.first c.args.row.now.nodes.now c.requires.row.0 e in
    let sorted = c.in_order.ensures.members e in (
      λ d. to (elim (all.0 (sorted.0 d)) [ inl o ↦ inl (operands.0 o) | inr o ↦ inr o ]),
      λ d. sorted.1 (all.1 (elim (from d) [ inl o ↦ inl (operands.1 o) | inr o ↦ inr o ])),
    )
