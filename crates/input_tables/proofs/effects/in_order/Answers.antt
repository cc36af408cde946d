use Rattle.mod_ref.proofs.Sorting.{sorted_members, sorted_rises}
use Rattle.input_tables.specs.Effects.{effect_cmp}
use Rattle.input_tables.proofs.EffectOrder.{effect_eq, effects_exact}
use Rattle.input_tables.proofs.effects.in_order.Goals as goal

pub returns-clause-order : goal.returns-clause-order
returns-clause-order c = sorted_rises effect_eq effect_cmp effects_exact _ _ c.sort_unstable.ensures.sorted c.dedup.ensures.filtered

pub returns-clause-members : goal.returns-clause-members
returns-clause-members c = sorted_members effect_eq effect_cmp effects_exact _ _ _ c.sort_unstable.ensures.permutation c.dedup.ensures.filtered
