use Rattle.std.proofs.Common.{List, ℕ, sym, subst}
use Rattle.slicer_ids.specs.declared.ids.NodeId.{NodeId}
use Rattle.tabulate.specs.Methods.{IsMet}
use Rattle.tabulate.specs.Found.{IsQueue}
use Rattle.tabulate.specs.States.{IsNext}
use Rattle.tabulate.proofs.Backward.{first_of, open_waits, is_next}
use Rattle.tabulate.proofs.tabulation.take_next.Goals as goal

pub owner-requires : goal.owner-requires
owner-requires c =
    let queue = subst (λ (ys : List NodeId). IsQueue c.args.f.now c.args.found.now.items ys) c.in-Some.ensures.items c.requires.queue in
    (first_of c.args.f.now c.args.found.now.items c.in-Some.n c.pop_front.new.self.items queue).0

pub met_method-method-requires-clause-met : goal.met_method-method-requires-clause-met
met_method-method-requires-clause-met c =
    let p = c.args.f.now in
    let ts = c.args.found.now.items in
    let queue = subst (λ (ys : List NodeId). IsQueue p ts ys) c.in-Some.ensures.items c.requires.queue in
    let first = first_of p ts c.in-Some.n c.pop_front.new.self.items queue in
    subst (λ (m : ℕ). IsMet c.args.methods.now.items m) (sym c.owner.ensures.is) (c.requires.met _ (open_waits p ts c.in-Some.n.0 first.0 first.1))

pub returns-clause-taken : goal.returns-clause-taken
returns-clause-taken c =
    let p = c.args.f.now in
    let ts = c.args.found.now.items in
    let queue = subst (λ (ys : List NodeId). IsQueue p ts ys) c.in-Some.ensures.items c.requires.queue in
    subst (λ (ys : List NodeId). IsNext p ts c.take.new.found.items ys c.pop_front.new.self.items c.in-Some.n c.take.new.into.items) (sym c.in-Some.ensures.items)
    (is_next p ts c.take.new.found.items c.in-Some.n c.pop_front.new.self.items c.take.new.into.items c.in_ok-take.ensures.found queue c.in_ok-take.ensures.takes)
