use Rattle.std.proofs.Common.{Some, ◌++◌, sym, subst, ◌∙◌, ap}
use Rattle.class_form.specs.Resolution.{InterfacesOf}
use Rattle.program_form.proofs.Visits.{one_field, one_chain, one_above}
use Rattle.program_form.proofs.laws.a_search_has_one_list.Goals as goal

pub returns-clause-fields : goal.returns-clause-fields
returns-clause-fields c = λ classes name xs ys order x y. one_field classes order (Some name) x y

pub returns-clause-methods : goal.returns-clause-methods
returns-clause-methods c = λ classes name xs ys order x y.
    let chain = one_chain classes order (Some name) x.2 y.2 in
    let above = one_above classes order y.0 (subst (λ cs. InterfacesOf classes cs x.1) chain x.3) y.3 in
    x.4 ∙ ap (λ cs. cs ++ x.1) chain ∙ ap (λ is. y.0 ++ is) above ∙ sym y.4

pub returns-clause-selections : goal.returns-clause-selections
returns-clause-selections c = λ classes name xs ys order x y. one_chain classes order (Some name) x y
