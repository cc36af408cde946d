use Rattle.std.proofs.Common.{◌<◌, ℕ, List, get_or, sym, subst}
use Rattle.std.proofs.lemmas.List.Elements.{Contains-get_or}
use Rattle.worklists.specs.Growth.{Grows, FromOne}
use Rattle.reaching_defs.specs.Frames.{count}
use Rattle.reaching_defs.specs.Facts.{IsFactAt}
use Rattle.std.specs.Prelude.{All}
use Rattle.reaching_defs.proofs.Windows.{grows_facts}
use Rattle.reaching_defs.proofs.spread.put_spread.Goals as goal

pub put_all-requires-clause-numbers : goal.put_all-requires-clause-numbers
put_all-requires-clause-numbers c =
    let f = c.args.frame.now in
    let items = c.spread.new.found.items.items in
    let all : All (λ n. n < count f) items = λ k d lt. (c.in_ok-spread.ensures.each (get_or items k d) (Contains-get_or items k d lt)).0 in
    subst (All (λ n. n < count f)) (sym c.as_slice.ensures.value) all

pub returns-clause-grown : goal.returns-clause-grown
returns-clause-grown c =
    let f = c.args.frame.now in
    let items = c.spread.new.found.items.items in
    grows_facts f c.args.slot c.args.def items c.args.facts.now.items c.put_all.new.facts.items c.in_ok-spread.ensures.each c.in_ok-spread.ensures.whole
    (subst (λ (xs : List ℕ). Grows c.args.facts.now.items c.put_all.new.facts.items (FromOne (IsFactAt f c.args.def) xs)) c.as_slice.ensures.value c.in_ok-put_all.ensures)
