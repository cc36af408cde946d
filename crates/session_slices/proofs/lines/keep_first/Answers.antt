use Rattle.std.proofs.Common.{rules}
use Rattle.std.specs.Ordering.{eq_by_cmp}
use Rattle.std.proofs.lemmas.Fn.{dedup_same}
use Rattle.session_slices.specs.SliceLines.{place_cmp}
use Rattle.session_slices.proofs.lines.keep_first.Goals as goal

pub returns : goal.returns
returns c = dedup_same _ (eq_by_cmp place_cmp) _ (λ x y b f' x' y' k. search rules) _ _ c.dedup_by.ensures.filtered
