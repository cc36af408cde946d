use Rattle.std.proofs.Common.{◌≡◌, List, Contains, sym, subst, ◌∙◌}
use Rattle.std.specs.Prelude.{nat_lt}
use Rattle.std.proofs.lemmas.Result.{on_ok_weaker}
use Rattle.class_form.specs.declared.body.Point.{Point}
use Rattle.dep_form.specs.Nodes.{ComesBefore}
use Rattle.node_tables.specs.Statements.{AtInstr, AtStatement}
use Rattle.node_tables.proofs.Calls.{adds_none}
use Rattle.node_tables.proofs.Joining.{ordered_same}
use Rattle.node_tables.proofs.statements.add_instr.Goals as goal

pub returns-then-has_point : goal.returns-then-has_point
returns-then-has_point c =
    let x = c.args.scene.now in
    let b = c.args.body.now in
    let i = c.args.instr.now in
    let here = c.has_point.ensures.0 c.if-has_point.true in
    let among = subst (λ (ts : List Point). Contains ts here.0) c.items.ensures here.1 in
    on_ok_weaker c.add_statement.result
    (λ h. (
      h.0,
      h.1,
      ordered_same ComesBefore h.0 (AtStatement x.system.now x.effects.now (record { method = b.method; pc = i.pc }) (nat_lt 0 i.leaves)) (AtInstr x.system.now x.effects.now b i)
          (λ n w. ((here.0, (among, here.2)), w)) (λ n w. w.1) h.2,
    )) c.add_statement.ensures

pub returns-else-has_point : goal.returns-else-has_point
returns-else-has_point c =
    let x = c.args.scene.now in
    adds_none c.args.nodes.now.items (AtInstr x.system.now x.effects.now c.args.body.now c.args.instr.now)
    (λ n w. let yes = c.has_point.ensures.1 (w.0.0, subst (λ (ts : List Point). Contains ts w.0.0) (sym c.items.ensures) w.0.1.0, w.0.1.1) in absurd (cc (sym yes ∙ c.if-has_point.false)))
