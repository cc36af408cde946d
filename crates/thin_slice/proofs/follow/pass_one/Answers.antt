use Rattle.std.proofs.Common.{sym, subst, ◌∙◌}
use Rattle.dep_form.specs.declared.node.Label.TheVariants.{Return}
use Rattle.dep_form.specs.Inputs.{IsEdge}
use Rattle.dep_form.specs.Phases.{edge}
use Rattle.dep_form.specs.Slices.{ModeEdges}
use Rattle.worklists.proofs.Growing.{Grows-same}
use Rattle.thin_slice.specs.Marks.{found}
use Rattle.thin_slice.specs.Steps.{PassesBy, PassesOver}
use Rattle.thin_slice.proofs.Stepping.{same_return}
use Rattle.thin_slice.proofs.follow.pass_one.Goals as goal

pub caller_of-caller-requires : goal.caller_of-caller-requires
caller_of-caller-requires g c =
    let e = c.args.edge in
    (e.from, subst (λ l. IsEdge c.args.f.now.inputs (edge e.from l e.to)) c.in-Return.is c.requires.edge)

pub over-requires-clause-edge : goal.over-requires-clause-edge
over-requires-clause-edge g c =
    let e = c.args.edge in
    (e.to, subst (λ k. IsEdge c.args.f.now.inputs (edge e.from (Return k) e.to)) (sym c.caller_of-caller.ensures.call) (subst (λ l. IsEdge c.args.f.now.inputs (edge e.from l e.to)) c.in-Return.is c.requires.edge))

pub returns-in-Return-clause-grown : goal.returns-in-Return-clause-grown
returns-in-Return-clause-grown g c =
    let E = ModeEdges c.args.f.now.inputs c.args.mode in
    let e = c.args.edge in
    let call = c.caller_of-caller.ensures.call in
    Grows-same (found c.args.nodes.now) (found c.over.new.nodes) (PassesBy E c.caller_of-caller.result.call e.from) (PassesOver E e)
    (λ q h. (c.in-Return.c, c.in-Return.is, subst (λ k. PassesBy E k e.from q) call h))
    (λ q h. subst (λ k. PassesBy E k e.from q) (sym (same_return c.in-Return.c h.0 (sym c.in-Return.is ∙ h.1)) ∙ sym call) h.2) c.over.ensures.grown
