use Rattle.std.proofs.Common.{List, [], sym, subst}
use Rattle.class_form.specs.declared.body.Point.{Point}
use Rattle.worklists.specs.Growth.{Grows, FromOne}
use Rattle.reaching_defs.specs.declared.starts.Start.{Start}
use Rattle.reaching_defs.specs.Points.{IsIndex}
use Rattle.reaching_defs.specs.Facts.{IsFactOf}
use Rattle.reaching_defs.proofs.Holding.{handlers_within, holding}
use Rattle.reaching_defs.proofs.definitions.reaching.Goals as goal

pub starts_of-requires-clause-within : goal.starts_of-requires-clause-within
starts_of-requires-clause-within c =
    let is = subst (IsIndex c.args.shape.now.points) (sym c.as_slice-by_pc.ensures.value) (subst (λ (xs : List Point). IsIndex xs c.in_ok-index.index.items) c.items-points.ensures c.in_ok-index.ensures.index) in
    handlers_within c.args.shape.now c.as_slice-by_pc.result.now c.requires is

pub all_facts-requires-clause-index : goal.all_facts-requires-clause-index
all_facts-requires-clause-index c =
    subst (IsIndex c.args.shape.now.points) (sym c.as_slice-by_pc.ensures.value)
    (subst (λ (xs : List Point). IsIndex xs c.in_ok-index.index.items) c.items-points.ensures c.in_ok-index.ensures.index)

pub returns : goal.returns
returns c = λ pc slot defs are.
    holding c.args.shape.now c.in_ok-starts.starts.items c.in_ok-facts.facts.items c.in_ok-starts.ensures.whole
    (subst (λ (xs : List Start). Grows [] c.in_ok-facts.facts.items (FromOne (IsFactOf c.args.shape.now) xs)) c.as_slice.ensures.value c.in_ok-facts.ensures)
    pc slot defs (c.in_ok-reach.ensures pc slot defs are)
