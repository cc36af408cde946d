use Rattle.std.proofs.Common.{subst}
use Rattle.dep_form.specs.Slices.{ModeEdges}
use Rattle.thin_slice.specs.Marks.{found}
use Rattle.thin_slice.specs.Walks.{IsDown, IsTaken, seeds_of}
use Rattle.thin_slice.proofs.Going.{at_down, served_down, goes_down, down_cause, down_slice, down_fetched}
use Rattle.thin_slice.proofs.walk.Walk.go_down.Given as given
use Rattle.thin_slice.proofs.walk.Walk.go_down.Goals as goal

done : (g : given.Over) (c : goal.After-walk_down g) → IsDown (ModeEdges c.args.f.now.inputs c.args.mode) (seeds_of c.args.self.now) c.args.self.now.ups c.walk_down.new.next (found c.walk_down.new.nodes)
done g c = c.walk_down.ensures.walking (seeds_of c.args.self.now) (at_down c.args.f.now c.args.mode c.args.self.now c.requires.phase c.requires.walking)

pub walk_down-requires-clause-served : goal.walk_down-requires-clause-served
walk_down-requires-clause-served g c = served_down c.args.f.now (g.G.SeenGraphs.has_seen c.args.graphs.now) (λ e. g.R.KnownRows.known c.args.rows.now e c.args.mode) c.args.self.now c.requires.phase c.requires.served

pub returns-clause-walking : goal.returns-clause-walking
returns-clause-walking g c =
    let w = c.args.self.now in
    goes_down c.args.f.now c.args.mode w c.walk_down.new.nodes c.walk_down.new.next c.requires.walking c.walk_down.ensures.nodes c.walk_down.ensures.front w.ups w.phase c.requires.phase (done g c)

pub returns-clause-served : goal.returns-clause-served
returns-clause-served g c = λ n t. c.walk_down.ensures.served n (subst (λ p. IsTaken p c.args.self.now.ups c.walk_down.new.next (found c.walk_down.new.nodes) n) c.requires.phase t)

pub returns-clause-cause : goal.returns-clause-cause
returns-clause-cause g c =
    down_cause c.args.f.now c.args.mode (seeds_of c.args.self.now) (g.G.SeenGraphs.has_seen c.args.graphs.now) (λ e. g.R.KnownRows.known c.walk_down.new.rows e c.args.mode) c.args.self.now.ups c.walk_down.new.next (found c.walk_down.new.nodes) c.walk_down.result
    (done g c) c.walk_down.ensures.stop

pub returns-clause-slice : goal.returns-clause-slice
returns-clause-slice g c =
    down_slice c.args.f.now c.args.mode (seeds_of c.args.self.now) (g.G.SeenGraphs.has_seen c.args.graphs.now) (λ e. g.R.KnownRows.known c.walk_down.new.rows e c.args.mode) c.args.self.now.ups c.walk_down.new.next (found c.walk_down.new.nodes) c.walk_down.result
    (done g c) c.walk_down.ensures.stop

pub returns-clause-fetched : goal.returns-clause-fetched
returns-clause-fetched g c =
    down_fetched c.args.f.now c.args.mode (seeds_of c.args.self.now) (g.G.SeenGraphs.has_seen c.args.graphs.now) (λ e. g.R.KnownRows.known c.walk_down.new.rows e c.args.mode) c.args.self.now.ups c.walk_down.new.next (found c.walk_down.new.nodes) c.walk_down.result
    (done g c) c.walk_down.ensures.stop c.walk_down.ensures.served
