use Rattle.std.proofs.Common.{◌≡◌, ◌≤◌, ◌∙◌, ◌++◌, ◌∷◌, drop, sym, subst, ap}
use Rattle.class_form.specs.Types.{spell_types, spell_result, slots}
use Rattle.class_form.proofs.OneType.{same_types}
use Rattle.jvm_names.proofs.types.method_from.Goals as goal

pub outcome-requires : goal.outcome-requires
outcome-requires c =
    let m = c.requires.0 in
    let inside : c.split_at.result.1.now ≡ spell_types m.arguments ++ 41 ∷ spell_result m.result = c.split_at.ensures.back ∙ ap (λ x. drop 1 x) c.requires.1.3 in
    let same = same_types m.arguments c.in_ok-arguments.arguments (spell_result m.result) c.in_ok-arguments.rest.now c.requires.1.0 c.in_ok-arguments.ensures.0 (sym inside ∙ c.in_ok-arguments.ensures.1) in
    (m.result, (c.requires.1.2, sym same.1))

pub returns : goal.returns
returns c =
    let m = c.requires.0 in
    let inside : c.split_at.result.1.now ≡ spell_types m.arguments ++ 41 ∷ spell_result m.result = c.split_at.ensures.back ∙ ap (λ x. drop 1 x) c.requires.1.3 in
    let same = same_types m.arguments c.in_ok-arguments.arguments (spell_result m.result) c.in_ok-arguments.rest.now c.requires.1.0 c.in_ok-arguments.ensures.0 (sym inside ∙ c.in_ok-arguments.ensures.1) in
    let result : spell_result m.result ≡ spell_result c.in_ok-result.result = same.1 ∙ c.in_ok-result.ensures.1 in (
      c.in_ok-arguments.ensures.0,
      subst (λ ts. slots ts ≤ 255) same.0 c.requires.1.1,
      c.in_ok-result.ensures.0,
      c.requires.1.3 ∙ ap (λ ts. 40 ∷ (spell_types ts ++ 41 ∷ spell_result m.result)) same.0 ∙ ap (λ x. 40 ∷ (spell_types c.in_ok-arguments.arguments ++ 41 ∷ x)) result,
    )
