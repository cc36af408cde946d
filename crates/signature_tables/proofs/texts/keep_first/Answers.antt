use Rattle.std.proofs.Common.{rules}
use Rattle.std.proofs.lemmas.Fn.{dedup_same}
use Rattle.signature_tables.specs.TextPairs.{are_same}
use Rattle.signature_tables.proofs.texts.keep_first.Goals as goal

pub returns : goal.returns
returns c = dedup_same _ are_same _ (λ x y b f' x' y' k. search rules) _ _ c.dedup_by.ensures.filtered
