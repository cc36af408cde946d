use Rattle.std.proofs.Common.{List, subst, sym}
use Rattle.std.specs.Prelude.{Contains, ◌↔◌}
use Rattle.std.proofs.lemmas.Result.{on_ok_weaker}
use Rattle.slicer_ids.specs.declared.ids.ClassId.{ClassId}
use Rattle.constraint_rules.specs.Supers.{IsFromFirst}
use Rattle.constraint_rules.proofs.Initials.{supers_entered}
use Rattle.constraint_rules.proofs.classes.push_initializers.Goals as goal

pub returns : goal.returns
returns c = λ p s names set.
    on_ok_weaker c.push_of_classes.result (λ g. supers_entered p c.args.t.now.initializers.now set.initializers c.args.class c.as_slice.result.now c.args.rules.now.items c.push_of_classes.new.rules.items
    (subst (λ (xs : List ClassId). (k : ClassId) → Contains xs k ↔ IsFromFirst p.classes c.args.class k) (sym c.as_slice.ensures.value) (c.in_ok-classes.ensures p set.of)) g) c.push_of_classes.ensures
