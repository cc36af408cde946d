use Rattle.std.proofs.Common.{List, ℕ, get_or, subst}
use Rattle.dep_form.specs.declared.texts.MethodText.{MethodText}
use Rattle.refused_statements.specs.Saying.{IsSaidBy}
use Rattle.refused_statements.proofs.Telling.{statement_said}
use Rattle.refused_statements.proofs.saying.statement_refusal.Goals as goal

pub class_names-requires : goal.class_names-requires
class_names-requires c = record { named = λ k d lt. c.class_files_are_named.ensures (get_or c.args.h.now k d) (c.requires.files k d lt) }

pub returns : goal.returns
returns c = λ p is refused.
    let texts = c.in_ok-texts.texts in
    let names = c.in_ok-names.names in
    let said = subst (λ (ns : List (List ℕ)). IsSaidBy texts ns c.args.r c.in_ok-said.said) c.items-2.ensures
    (subst (λ (ts : List MethodText). IsSaidBy ts c.items-2.result.now c.args.r c.in_ok-said.said) c.items.ensures c.in_ok-said.ensures) in
    statement_said p c.args.s.now is.coded (c.constraints_give_the_facts.ensures p c.args.s.now is.asked is.constraints) texts names (c.in_ok-texts.ensures p is) (c.in_ok-names.ensures p is.classes_are)
    c.args.r c.in_ok-said.said refused said
