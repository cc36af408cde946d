use Rattle.std.proofs.Common.{List, subst}
use Rattle.std.specs.Prelude.{AllPairs}
use Rattle.slicer_ids.specs.declared.ids.ClassId.{ClassId}
use Rattle.signature_tables.specs.Pairs.{ClassesBefore}
use Rattle.signature_tables.specs.Selections.{Choice, ChoiceBefore}
use Rattle.constraints.proofs.type_order.types_in_order.Goals as goal

pub returns-clause-subclasses : goal.returns-clause-subclasses
returns-clause-subclasses c = subst (λ (xs : List (ClassId × ClassId)). AllPairs ClassesBefore xs) c.items.ensures (c.pairs_rise.ensures c.if-not-pairs_rise.false)

pub returns-clause-selects : goal.returns-clause-selects
returns-clause-selects c = subst (λ (xs : List Choice). AllPairs ChoiceBefore xs) c.items-2.ensures (c.choices_rise.ensures c.if-not-choices_rise.false)
