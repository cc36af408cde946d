use Rattle.std.proofs.Common.{sym, subst}
use Rattle.dep_form.specs.declared.facts.Facts.{Facts}
use Rattle.dep_form.specs.Graphs.{HasInput, IsGraphIn}
use Rattle.thin_slice.proofs.Located.{has_input}
use Rattle.thin_slice.proofs.needs.graph_at.Goals as goal

pub seen-requires-clause-inside : goal.seen-requires-clause-inside
seen-requires-clause-inside g c = subst (λ (f : Facts). HasInput f.inputs c.method_at-m.result) (sym c.requires.facts) (has_input c.args.f.now.inputs c.args.n c.method_at-m.result c.method_at-m.ensures)

pub returns-in-Some-clause-found : goal.returns-in-Some-clause-found
returns-in-Some-clause-found g c = (c.method_at-m.result, c.method_at-m.ensures, c.in-Some.ensures.0, subst (λ (f : Facts). IsGraphIn f.inputs c.method_at-m.result c.in-Some.graph.now) c.requires.facts c.in-Some.ensures.1)
