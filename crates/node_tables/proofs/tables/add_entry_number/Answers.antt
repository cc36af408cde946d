use Rattle.std.proofs.Common.{◌≡◌, Some, sym, subst, ◌∙◌}
use Rattle.std.proofs.lemmas.Option.{same_Some}
use Rattle.std.proofs.lemmas.Result.{on_ok_weaker}
use Rattle.slicer_ids.specs.declared.ids.MethodId.{MethodId}
use Rattle.dep_form.specs.Nodes.{ComesBefore}
use Rattle.node_tables.specs.Rows.{AtEntryNumber}
use Rattle.node_tables.specs.Statements.{AtEntryCall}
use Rattle.node_tables.proofs.Joining.{ordered_same}
use Rattle.node_tables.proofs.tables.add_entry_number.Goals as goal

pub returns : goal.returns
returns c =
    let x = c.args.scene.now in
    let k = c.args.k in
    let t = c.entry_at.result in
    on_ok_weaker c.add_entry_call.result
    (λ h. (
      h.0,
      h.1,
      ordered_same ComesBefore h.0 (AtEntryCall x.system.now x.effects.now k t) (AtEntryNumber x k) (λ n w. (t, c.entry_at.ensures, w))
          (λ n w. subst (λ (z : MethodId). AtEntryCall x.system.now x.effects.now k z n) (same_Some w.0 t (sym w.1 ∙ c.entry_at.ensures)) w.2) h.2,
    ))
    (c.add_entry_call.ensures (c.requires.scene.gives k t c.given_at.result c.entry_at.ensures c.given_at.ensures))
