use Rattle.std.proofs.Common.{◌≡◌, Some, ◌++◌, sym, subst, ◌∙◌, ap}
use Rattle.class_form.specs.Resolution.{DeclaresField, DeclaresMethod, DeclaresInstance, FirstIn, InterfacesOf}
use Rattle.program_form.proofs.Visits.{one_field, one_chain, one_above, one_first}
use Rattle.program_form.proofs.laws.a_search_has_one_answer.Goals as goal

pub returns-clause-fields : goal.returns-clause-fields
returns-clause-fields c = λ classes key a b order once x y.
    let F = DeclaresField classes key in
    let same = one_field classes order (Some key.class) y.1 x.1 in
    one_first F once x.0 x.2 (subst (λ cs. FirstIn F cs b) same y.2)

pub returns-clause-methods : goal.returns-clause-methods
returns-clause-methods c = λ classes key a b order once x y.
    let F = DeclaresMethod classes key in
    let chain = one_chain classes order (Some key.class) y.1.2 x.1.2 in
    let above = one_above classes order x.1.0 (subst (λ cs. InterfacesOf classes cs y.1.1) chain y.1.3) x.1.3 in
    let same : y.0 ≡ x.0 = y.1.4 ∙ ap (λ cs. cs ++ y.1.1) chain ∙ ap (λ is. x.1.0 ++ is) above ∙ sym x.1.4 in
    one_first F once x.0 x.2 (subst (λ cs. FirstIn F cs b) same y.2)

pub returns-clause-selections : goal.returns-clause-selections
returns-clause-selections c = λ classes name key a b order once x y.
    let F = DeclaresInstance classes key in
    let same = one_chain classes order (Some name) y.1 x.1 in
    one_first F once x.0 x.2 (subst (λ cs. FirstIn F cs b) same y.2)
