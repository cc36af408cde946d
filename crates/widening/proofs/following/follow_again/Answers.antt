use Rattle.std.proofs.Common.{◌≡◌, ◌∙◌, ℕ, List, length, sym, subst, ap}
use Rattle.tabulate.specs.Frames.{width, method_of}
use Rattle.tabulate.specs.Methods.{IsMet}
use Rattle.tabulate.specs.Found.{IsOpen}
use Rattle.tabulate.specs.States.{IsTakenUp}
use Rattle.tabulate.proofs.Testing.{closed_none}
use Rattle.widening.specs.Edges.{Widened}
use Rattle.widening.specs.Pairs.{IsFollowed}
use Rattle.widening.proofs.FollowLaws.{again_none, again, got_met}
use Rattle.widening.proofs.CountLaws.{decide_waits}
use Rattle.widening.proofs.following.follow_again.Goals as goal

pub returns-in_default-clause-followed : goal.returns-in_default-clause-followed
returns-in_default-clause-followed g c =
    let f = c.args.f.now in
    let E = Widened f c.args.expansions.now in
    again_none f E c.args.n c.args.methods.now.items c.args.pairs.now c.requires.pairs (λ x h. c.in_default.ensures (subst (λ (m : ℕ). IsMet c.args.methods.now.items m) (sym c.owner.ensures.is) (got_met f E c.args.methods.now.items c.args.pairs.now c.requires.pairs (c.args.n.0, x) h)))

pub returns-then-not-is_open-clause-followed : goal.returns-then-not-is_open-clause-followed
returns-then-not-is_open-clause-followed g c =
    let f = c.args.f.now in
    let E = Widened f c.args.expansions.now in
    again_none f E c.args.n c.args.methods.now.items c.args.pairs.now c.requires.pairs
    (λ x h. closed_none f c.args.pairs.now.found.items c.requires.pairs.found c.args.n.0 c.in-Some.method.now.id.0 x (sym (c.in-Some.ensures.2 ∙ c.owner.ensures.is)) (c.is_open.ensures.none c.if-not-is_open.true) h)

pub follow_node-requires-clause-node : goal.follow_node-requires-clause-node
follow_node-requires-clause-node g c = (c.requires.node, subst (λ (m : ℕ). IsOpen c.args.f.now c.args.pairs.now.found.items m) (c.in-Some.ensures.2 ∙ c.owner.ensures.is) (c.is_open.ensures.yes c.if-not-is_open.false))

pub follow_node-requires-clause-delta : goal.follow_node-requires-clause-delta
follow_node-requires-clause-delta g c =
    let f = c.args.f.now in
    subst (λ (ys : List ℕ). (length ys ≡ width f (method_of f c.args.n.0)) × IsTakenUp f c.args.pairs.now.found.items c.args.n ys) (sym c.deref.ensures.value)
    (c.in_ok-copy.ensures.len ∙ ap (width f) (c.in-Some.ensures.2 ∙ c.owner.ensures.is), λ x b. ((c.in_ok-copy.ensures.bits x).0 b).0)

pub returns-clause-followed : goal.returns-clause-followed
returns-clause-followed g c =
    let f = c.args.f.now in
    let E = Widened f c.args.expansions.now in
    let delta : List ℕ = c.copy.new.into.items in
    let r : IsFollowed f E c.args.n delta c.follow_node.new.methods.items c.args.pairs.now c.follow_node.new.pairs c.args.tally.now c.follow_node.new.tally = subst (λ (ys : List ℕ). IsFollowed f E c.args.n ys c.follow_node.new.methods.items c.args.pairs.now c.follow_node.new.pairs c.args.tally.now c.follow_node.new.tally) c.deref.ensures.value c.in_ok-follow_node.ensures.followed in
    again f E c.args.n delta c.follow_node.new.methods.items c.args.pairs.now c.follow_node.new.pairs c.args.tally.now c.follow_node.new.tally c.requires.pairs.edges c.in_ok-copy.ensures.bits (decide_waits f c.args.pairs.now) r
