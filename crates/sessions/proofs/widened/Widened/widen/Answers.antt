use Rattle.std.proofs.Common.{◌≡◌, ◌↔◌, ◌⊎◌, ℕ, List, Contains, AllPairs, Some, refl, sym, subst, ◌∙◌}
use Rattle.slicer_ids.specs.declared.ids.Statement.{Statement}
use Rattle.slicer_ids.specs.Order.{StatementBefore}
use Rattle.widening.specs.Widened.{seeds_of}
use Rattle.sessions.specs.Turns.{TakesTurns}
use Rattle.sessions.proofs.Listing.{IsFilled}
use Rattle.sessions.proofs.Widening.{none_missing, no_turns, filled_all, as_list}
use Rattle.sessions.proofs.widened.Widened.widen.Goals as goal

-- what was found missing, of the accesses that are listed
had_is : (had items more all : List Statement) → had ≡ items → IsFilled had more all → IsFilled items more all
had_is had items more all e h = subst (λ (xs : List Statement). IsFilled xs more all) e h

more_is : (had more items all : List Statement) → more ≡ items → IsFilled had items all → IsFilled had more all
more_is had more items all e h = subst (λ (xs : List Statement). IsFilled had xs all) (sym e) h

pub missing-requires : goal.missing-requires
missing-requires g c = subst (AllPairs StatementBefore) (sym c.as_slice.ensures.value) c.requires.widened.order

pub returns-then-is_none-clause-accesses : goal.returns-then-is_none-clause-accesses
returns-then-is_none-clause-accesses g c =
    let w = c.args.self.now in
    let more = c.as_slice-more.result.now in
    let is = more_is w.accesses.items more c.in_ok-list.list.items c.args.accesses.now c.as_slice-more.ensures.value (had_is c.as_slice.result.now w.accesses.items c.in_ok-list.list.items c.args.accesses.now c.as_slice.ensures.value c.in_ok-list.ensures) in
    none_missing c.args.f.now w c.requires.widened more c.args.accesses.now (c.if-is_none.ensures.yes refl) is c.requires.more

pub returns-then-is_none-clause-turns : goal.returns-then-is_none-clause-turns
returns-then-is_none-clause-turns g c =
    let w = c.args.self.now in
    let more = c.as_slice-more.result.now in
    let is = more_is w.accesses.items more c.in_ok-list.list.items c.args.accesses.now c.as_slice-more.ensures.value (had_is c.as_slice.result.now w.accesses.items c.in_ok-list.list.items c.args.accesses.now c.as_slice.ensures.value c.in_ok-list.ensures) in
    no_turns c.args.f.now w c.requires.widened c.args.accesses.now c.args.steps.now (none_missing c.args.f.now w c.requires.widened more c.args.accesses.now (c.if-is_none.ensures.yes refl) is c.requires.more)

pub widen_by-requires-clause-order : goal.widen_by-requires-clause-order
widen_by-requires-clause-order g c = subst (AllPairs StatementBefore) (sym c.in_ok-all.ensures.items) c.requires.order

pub widen_by-requires-clause-more : goal.widen_by-requires-clause-more
widen_by-requires-clause-more g c =
    let w = c.args.self.now in
    let more = c.as_slice-more.result.now in
    let is = more_is w.accesses.items more c.in_ok-list.list.items c.args.accesses.now c.as_slice-more.ensures.value (had_is c.as_slice.result.now w.accesses.items c.in_ok-list.list.items c.args.accesses.now c.as_slice.ensures.value c.in_ok-list.ensures) in
    subst (λ (xs : List Statement). (s : Statement) → (Contains w.accesses.items s ⊎ Contains more s) ↔ Contains xs s) (sym c.in_ok-all.ensures.items) (filled_all w.accesses.items more c.args.accesses.now is c.requires.more)

pub returns-clause-accesses : goal.returns-clause-accesses
returns-clause-accesses g c = as_list c.widen_by.new.self.accesses.items c.args.accesses.now (c.in_ok-widen_by.ensures.accesses ∙ c.in_ok-all.ensures.items)

pub returns-clause-turns : goal.returns-clause-turns
returns-clause-turns g c = subst (λ (xs : List Statement). TakesTurns c.args.f.now (Contains xs) (Contains (seeds_of c.args.self.now.wide)) (Some c.args.self.now.accesses.items) c.args.steps.now c.widen_by.new.steps) c.in_ok-all.ensures.items c.in_ok-widen_by.ensures.turns
