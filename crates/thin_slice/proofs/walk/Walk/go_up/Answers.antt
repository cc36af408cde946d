use Rattle.std.proofs.Common.{rules, ◌≡◌, ◌≤◌, ℕ, false, List, take, length, Contains, refl, sym, subst, inl, inr, arith}
use Rattle.std.specs.Prelude.{◌↔◌}
use Rattle.slicer_ids.specs.declared.ids.MethodId.{MethodId}
use Rattle.slicer_ids.specs.declared.ids.ExitId.{ExitId}
use Rattle.dep_form.specs.declared.node.Edge.{Edge}
use Rattle.dep_form.specs.declared.facts.Facts.{Facts}
use Rattle.slicer_ids.specs.declared.ids.NodeId.{NodeId}
use Rattle.dep_form.specs.Slices.{ModeEdges}
use Rattle.thin_slice.specs.Marks.{found}
use Rattle.thin_slice.specs.declared.needs.Go.{Go}
use Rattle.thin_slice.specs.declared.needs.Phase.TheVariants.{Down}
use Rattle.thin_slice.specs.Needs.{is_need}
use Rattle.thin_slice.specs.Walks.{IsUp, IsTaken, IsStop, ModeSlice, WhenFinished, nodes_of, seeds_of}
use Rattle.thin_slice.proofs.Going.{at_up, served_up, goes_up, goes_down, up_cause, finished, same_seeds}
use Rattle.thin_slice.proofs.Starting.{turns_down}
use Rattle.thin_slice.proofs.walk.Walk.go_up.Goals as goal

pub walk_up-go-requires-clause-served : goal.walk_up-go-requires-clause-served
walk_up-go-requires-clause-served g c = served_up c.args.f.now (g.G.SeenGraphs.has_seen c.args.graphs.now) (λ e. g.R.KnownRows.known c.args.rows.now e c.args.mode) c.args.self.now c.requires.phase c.requires.served

pub returns-then-is_need-clause-walking : goal.returns-then-is_need-clause-walking
returns-then-is_need-clause-walking g c =
    let w = c.args.self.now in
    let up = c.walk_up-go.ensures.walking (seeds_of w) (at_up c.args.f.now c.args.mode w c.requires.phase c.requires.walking) in
    goes_up c.args.f.now c.args.mode w c.walk_up-go.new.nodes c.walk_up-go.new.next c.requires.walking c.walk_up-go.ensures.nodes c.walk_up-go.ensures.front c.requires.phase up

pub returns-then-is_need-clause-served : goal.returns-then-is_need-clause-served
returns-then-is_need-clause-served g c = λ n t. c.walk_up-go.ensures.served n (subst (λ p. IsTaken p c.args.self.now.ups c.walk_up-go.new.next (found c.walk_up-go.new.nodes) n) c.requires.phase t)

pub returns-then-is_need-clause-cause : goal.returns-then-is_need-clause-cause
returns-then-is_need-clause-cause g c =
    let w = c.args.self.now in
    let up = c.walk_up-go.ensures.walking (seeds_of w) (at_up c.args.f.now c.args.mode w c.requires.phase c.requires.walking) in
    up_cause c.args.f.now c.args.mode (seeds_of w) (g.G.SeenGraphs.has_seen c.args.graphs.now) (λ e. g.R.KnownRows.known c.walk_up-go.new.rows e c.args.mode) c.walk_up-go.new.next (found c.walk_up-go.new.nodes) c.walk_up-go.result up c.walk_up-go.ensures.stop

-- all nodes of the first phase were taken up
module _ (f : Facts) (Seen : MethodId → Type 0) (Known : ExitId → Type 0) (E : Edge → Type 0) (go : Go) (next count : ℕ) (nodes seeds : List NodeId) (stop : IsStop f Seen Known E go next nodes) (none : is_need go ≡ false) (t : IsUp E seeds next nodes) (all : length nodes ≡ count) where
  taken_up : next ≡ count
  taken_up =
      let le : length nodes ≤ next = subst (λ g. IsStop f Seen Known E g next nodes) (finished go none) stop in
      omega (arith, le, t.up.within, all)

pub go_down-requires-clause-walking : goal.go_down-requires-clause-walking
go_down-requires-clause-walking g c =
    let f = c.args.f.now in
    let w = c.args.self.now in
    let E = ModeEdges f.inputs c.args.mode in
    let nodes = c.walk_up-go.new.nodes in
    let up = c.walk_up-go.ensures.walking (seeds_of w) (at_up f c.args.mode w c.requires.phase c.requires.walking) in
    let all = c.walk_up-go.ensures.nodes.set.count in
    let same = taken_up f (g.G.SeenGraphs.has_seen c.args.graphs.now) (λ e. g.R.KnownRows.known c.walk_up-go.new.rows e c.args.mode) E c.walk_up-go.result c.walk_up-go.new.next nodes.count (found nodes) (seeds_of w) c.walk_up-go.ensures.stop (search rules) up all in
    goes_down f c.args.mode w nodes 0 c.requires.walking c.walk_up-go.ensures.nodes c.walk_up-go.ensures.front nodes.count Down refl
    (turns_down E (seeds_of w) (found nodes) nodes.count all (subst (λ k. IsUp E (seeds_of w) k (found nodes)) same up))

pub go_down-requires-clause-served : goal.go_down-requires-clause-served
go_down-requires-clause-served g c = λ n t.
    let f = c.args.f.now in
    let w = c.args.self.now in
    let E = ModeEdges f.inputs c.args.mode in
    let nodes = c.walk_up-go.new.nodes in
    let up = c.walk_up-go.ensures.walking (seeds_of w) (at_up f c.args.mode w c.requires.phase c.requires.walking) in
    let all = c.walk_up-go.ensures.nodes.set.count in
    let same = taken_up f (g.G.SeenGraphs.has_seen c.args.graphs.now) (λ e. g.R.KnownRows.known c.walk_up-go.new.rows e c.args.mode) E c.walk_up-go.result c.walk_up-go.new.next nodes.count (found nodes) (seeds_of w) c.walk_up-go.ensures.stop (search rules) up all in
    elim t [
      | inl a ↦ c.walk_up-go.ensures.served n (subst (λ k. Contains (take k (found nodes)) n) (sym same) a)
      | inr b ↦ absurd (omega (arith, b.1))
    ]

pub returns-clause-slice : goal.returns-clause-slice
returns-clause-slice g c =
    let f = c.args.f.now in
    let w = c.args.self.now in
    let same = same_seeds f c.args.mode w c.walk_up-go.new.nodes c.walk_up-go.new.next c.requires.walking c.walk_up-go.ensures.nodes c.walk_up-go.ensures.front in
    subst (λ s. WhenFinished c.go_down.result ((n : NodeId) → Contains (nodes_of c.go_down.new.self) n ↔ ModeSlice f c.args.mode s n)) same c.go_down.ensures.slice
