use Rattle.std.proofs.Common.{refl, ap}
use Rattle.dep_form.specs.declared.facts.Facts.{Facts}
use Rattle.method_graph.proofs.Keeping.{read_right}
use Rattle.method_graph.proofs.own.OwnGraphsGraphs.graph.Goals as goal

pub returns : goal.returns
returns c =
    let s = c.make.new.self in
    let right = read_right c.args.self.now.facts.now.inputs s.facts.now.inputs s.graphs.items c.args.m c.index.result.now c.in-Some.graph (ap (λ (f : Facts). f.inputs) c.make.ensures.kept.0) c.requires.inside c.make.ensures.own.size c.make.ensures.own.right c.index.ensures c.in-Some.is in
    ((refl, (λ _. tt), (c.make.ensures.own, c.make.ensures.kept, right)), record { after = tt })
