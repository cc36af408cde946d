use Rattle.std.proofs.lemmas.Result.{on_ok_weaker}
use Rattle.std.proofs.Common.{List, ℕ, Contains, subst, sym}
use Rattle.dep_form.specs.declared.rules.Var.{Var}
use Rattle.mod_ref.proofs.Gaining.{gains_same}
use Rattle.value_tables.specs.Methods.{FoundHas}
use Rattle.value_tables.specs.Values.{MadeHas}
use Rattle.value_tables.proofs.Within.{value_within}
use Rattle.value_tables.proofs.operands.add_made.Goals as goal

pub returns : goal.returns
returns c =
    let x = c.args.x.now in
    on_ok_weaker c.add_found.result
    (λ g. gains_same c.args.sites.now.items c.add_found.new.sites.items (FoundHas x.system.now c.numbered.result) (MadeHas x c.args.pc)
    (λ h. (
      λ (v, e, has). (v, subst (λ (ps : List (ℕ × Var)). Contains ps (c.args.pc, v)) c.items.ensures ((c.numbered.ensures v).0 e), has),
      λ (v, among, has). (v, (c.numbered.ensures v).1 (subst (λ (ps : List (ℕ × Var)). Contains ps (c.args.pc, v)) (sym c.items.ensures) among), has),
    )) g)
    (c.add_found.ensures x.system.now c.requires.solved (λ v e. value_within x.system.now x.body.now.method.0 x.vars.now c.args.pc v c.requires.vars
    (subst (λ (ps : List (ℕ × Var)). Contains ps (c.args.pc, v)) c.items.ensures ((c.numbered.ensures v).0 e))))
