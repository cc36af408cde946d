use Rattle.std.proofs.Common.{◌≡◌, ◌↔◌, ℕ, List, Contains, Some, sym, ap, subst, ◌∙◌}
use Rattle.std.specs.Prelude.{slice_get}
use Rattle.class_form.specs.declared.body.Def.{Def}
use Rattle.dep_form.specs.declared.rules.Var.{Var}
use Rattle.value_tables.specs.Methods.{IsVarOf}
use Rattle.value_tables.proofs.looking.var_of.Goals as goal

pub returns-in-Formal : goal.returns-in-Formal
returns-in-Formal c = λ x.
    let same = c.var_at.ensures ∙ ap (λ (xs : List Var). slice_get xs c.in-Formal.i) c.items.ensures in
    subst (λ (d : Def). (c.var_at.result ≡ Some x) ↔ IsVarOf c.args.vars.now d x) (sym c.in-Formal.is) (λ e. sym same ∙ e, λ e. same ∙ e)

pub returns-in-Value : goal.returns-in-Value
returns-in-Value c = λ x.
    subst (λ (d : Def). (c.numbered.result ≡ Some x) ↔ IsVarOf c.args.vars.now d x) (sym c.in-Value.is)
    (subst (λ (ps : List (ℕ × Var)). (c.numbered.result ≡ Some x) ↔ Contains ps (c.in-Value.pc, x)) c.items-in-Value.ensures (c.numbered.ensures x))

pub returns-in-Caught : goal.returns-in-Caught
returns-in-Caught c = λ x.
    subst (λ (d : Def). (c.numbered-in-Caught.result ≡ Some x) ↔ IsVarOf c.args.vars.now d x) (sym c.in-Caught.is)
    (subst (λ (ps : List (ℕ × Var)). (c.numbered-in-Caught.result ≡ Some x) ↔ Contains ps (c.in-Caught.handler, x)) c.items-in-Caught.ensures (c.numbered-in-Caught.ensures x))
