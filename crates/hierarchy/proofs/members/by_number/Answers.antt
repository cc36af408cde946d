use Rattle.std.proofs.Common.{sym, subst, arith}
use Rattle.std.specs.Prelude.{IsSortedByKey}
use Rattle.std.proofs.lemmas.List.{take_at}
use Rattle.hierarchy.specs.Places.{number_key_at, number_cmp}
use Rattle.hierarchy.proofs.members.by_number.Goals as goal

pub returns-clause-sorted : goal.returns-clause-sorted
returns-clause-sorted c = subst (IsSortedByKey (number_key_at c.args.kind c.args.classes.now) number_cmp) (sym (take_at c.sort_by_number.new.places _ c.args.places.len (omega arith))) c.sort_by_number.ensures.sorted
