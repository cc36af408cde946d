use Rattle.std.proofs.Common.{sym, subst, arith}
use Rattle.std.specs.Prelude.{IsSortedByKey}
use Rattle.std.proofs.lemmas.List.{take_at}
use Rattle.hierarchy.specs.Places.{texts_at, texts_cmp}
use Rattle.hierarchy.proofs.members.by_texts.Goals as goal

pub returns-clause-sorted : goal.returns-clause-sorted
returns-clause-sorted c = subst (IsSortedByKey (texts_at c.args.kind c.args.classes.now) texts_cmp) (sym (take_at c.sort_by_texts.new.places _ c.args.places.len (omega arith))) c.sort_by_texts.ensures.sorted
