use Rattle.std.proofs.Common.{◌≡◌, Some, None, sym, subst, ◌∙◌}
use Rattle.std.proofs.lemmas.Option.{same_Some}
use Rattle.std.proofs.lemmas.Result.{on_ok_weaker}
use Rattle.variable_tables.proofs.InOrder.{grows_none, grows_same}
use Rattle.constraints.specs.Initializers.{IsNumberedAt, IsNumbered, ClassRises}
use Rattle.constraints.proofs.initializers.push_method.Goals as goal

pub returns-in-Some : goal.returns-in-Some
returns-in-Some c =
    let h = c.args.h.now in
    let n = c.args.number in
    let place = c.in-Some.place in
    on_ok_weaker c.push_there.result
    (λ g. grows_same ClassRises (λ e. ⊥) c.args.found.now.items c.push_there.new.found.items (IsNumberedAt h place n) (IsNumbered h c.args.places.now n) (λ e. ⊥)
    (λ e is. (place, sym c.in-Some.ensures, is)) (λ e (q, at, is). subst (λ z. IsNumberedAt h z n e) (same_Some q place (sym at ∙ sym c.in-Some.ensures)) is) (λ e is no. no) (λ e is no. no) g)
    c.push_there.ensures

pub returns-in-None : goal.returns-in-None
returns-in-None c =
    grows_none ClassRises (λ e. ⊥) c.args.found.now.items (IsNumbered c.args.h.now c.args.places.now c.args.number)
    (λ e (q, at, is). let g : None ≡ Some q = c.in-None.ensures ∙ at in cc g)
