use Rattle.std.proofs.Common.{◌∙◌, length, List, sym, subst, ap}
use Rattle.slicer_ids.specs.declared.ids.NodeId.{NodeId}
use Rattle.widening.specs.declared.expansions.Expansions.{Expansions}
use Rattle.widening.specs.States.{IsSliced}
use Rattle.widening.proofs.StartLaws.{met_none}
use Rattle.widening.proofs.TurnLaws.{first_turns, first_at_most}
use Rattle.widening.proofs.wide.begin.Goals as goal

pub start-requires-clause-methods : goal.start-requires-clause-methods
start-requires-clause-methods g c = met_none c.args.f.now c.in_ok-methods.methods.items (c.in_ok-methods.ensures.len ∙ ap length c.items-count.ensures) c.in_ok-methods.ensures.none

pub returns-clause-wide : goal.returns-clause-wide
returns-clause-wide g c = subst (λ (xs : List NodeId). IsSliced c.args.f.now xs c.grow.new.methods.items c.grow.new.state) (sym c.in_ok-copy.ensures) (c.in_ok-grow.ensures.sliced c.args.seeds.now c.in_ok-state.ensures.growing)

pub grow-requires-clause-growing : goal.grow-requires-clause-growing
grow-requires-clause-growing g c = (c.args.seeds.now, c.in_ok-state.ensures.growing)

pub returns-clause-expansions : goal.returns-clause-expansions
returns-clause-expansions g c = ap (λ (x : Expansions). x.accesses.items) c.grow.ensures.expansions ∙ c.in_ok-state.ensures.expansions

pub returns-clause-turns : goal.returns-clause-turns
returns-clause-turns g c = first_turns c.args.f.now c.args.seeds.now c.in_ok-state.state.pairs c.in_ok-state.ensures.none c.args.steps.now c.grow.new.steps c.grow.new.methods.items c.grow.new.state (c.in_ok-grow.ensures.sliced c.args.seeds.now c.in_ok-state.ensures.growing) (ap (λ (x : Expansions). x.accesses.items) c.grow.ensures.expansions ∙ c.in_ok-state.ensures.expansions) c.in_ok-grow.ensures.turns

pub returns-in_err-grow-clause-within : goal.returns-in_err-grow-clause-within
returns-in_err-grow-clause-within g c = first_at_most c.args.f.now c.args.seeds.now c.in_ok-state.state.pairs c.in_ok-state.ensures.none c.args.steps.now c.grow.new.steps c.in_ok-state.state.expansions.accesses.items c.in_ok-state.ensures.expansions (c.grow.ensures.within c.args.seeds.now c.in_ok-state.ensures.growing)

pub returns-clause-within : goal.returns-clause-within
returns-clause-within g c = first_at_most c.args.f.now c.args.seeds.now c.in_ok-state.state.pairs c.in_ok-state.ensures.none c.args.steps.now c.grow.new.steps c.in_ok-state.state.expansions.accesses.items c.in_ok-state.ensures.expansions (c.grow.ensures.within c.args.seeds.now c.in_ok-state.ensures.growing)
