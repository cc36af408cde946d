use Rattle.mod_ref.proofs.Sorting.{sorted_members}
use Rattle.mod_ref.proofs.Orders.{effect_cmp, effect_eq, effects_exact}
use Rattle.mod_ref.proofs.effects.Effects.tidy.Goals as goal

pub returns : goal.returns
returns c = sorted_members effect_eq effect_cmp effects_exact _ _ _ c.sort_unstable.ensures.permutation c.dedup.ensures.filtered
