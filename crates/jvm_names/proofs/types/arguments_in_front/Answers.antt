use Rattle.std.proofs.Common.{◌≡◌, ◌∙◌, ◌++◌, ◌∷◌, [], sym, subst, ap, append_assoc}
use Rattle.std.specs.List.{AllByRecursion}
use Rattle.class_form.specs.Types.{IsType, spell_type, spell_types}
use Rattle.jvm_names.proofs.Arguments.{one_more_argument, others_follow, all-push, spell_types-push}
use Rattle.jvm_names.proofs.types.arguments_in_front.Goals as goal

pub type_in_front-requires : goal.type_in_front-requires
type_in_front-requires c =
    let m = one_more_argument c.loop-rest.rest.now c.loop-rest.invariant.left c.loop-rest-test.true in
    (m.type, m.rest, m.is, m.text)

pub loop-rest-preserved : goal.loop-rest-preserved
loop-rest-preserved c =
    let rest = c.loop-rest.rest.now in
    let found = c.in_ok-argument.argument in
    let m = one_more_argument rest c.loop-rest.invariant.left c.loop-rest-test.true in
    let is : IsType found = c.in_ok-argument.ensures.0 in
    let text : rest ≡ spell_type found ++ c.in_ok-argument.after.now = c.in_ok-argument.ensures.1 in
    let pushed : c.push.new.self.items ≡ c.loop-rest.arguments.items ++ found ∷ [] = c.in_ok-push.ensures.items in
    record {
      left = others_follow rest c.in_ok-argument.after.now found is text m;
      types = subst (λ x. AllByRecursion IsType x) (sym pushed) (all-push c.loop-rest.arguments.items found c.loop-rest.invariant.types is);
      text =
          c.loop-rest.invariant.text ∙ ap (λ x. spell_types c.loop-rest.arguments.items ++ x) text
          ∙ sym (append_assoc (spell_types c.loop-rest.arguments.items) (spell_type found) c.in_ok-argument.after.now)
          ∙ ap (λ x. x ++ c.in_ok-argument.after.now) (sym (spell_types-push c.loop-rest.arguments.items found))
          ∙ ap (λ x. spell_types x ++ c.in_ok-argument.after.now) (sym pushed);
    }
