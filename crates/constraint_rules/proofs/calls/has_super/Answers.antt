use Rattle.std.proofs.Common.{List, sym, subst}
use Rattle.std.specs.Prelude.{Contains}
use Rattle.slicer_ids.specs.declared.ids.ClassId.{ClassId}
use Rattle.constraint_rules.proofs.MethodNumbers.{proper_from}
use Rattle.constraint_rules.proofs.calls.has_super.Goals as goal

pub returns : goal.returns
returns c = λ p of.
    let climbed = c.in_ok-supers.ensures p of c.args.above in
    let proper = proper_from p.classes c.args.class c.args.above c.super_of.result (c.super_of.ensures p of) in (
      λ yes. proper.0 (climbed.0 (subst (λ (xs : List ClassId). Contains xs c.args.above) c.as_slice.ensures.value (c.is_among.ensures.0 yes))),
      λ h. c.is_among.ensures.1 (subst (λ (xs : List ClassId). Contains xs c.args.above) (sym c.as_slice.ensures.value) (climbed.1 (proper.1 h))),
    )
