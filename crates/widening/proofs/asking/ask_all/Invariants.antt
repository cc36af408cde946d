use Rattle.std.proofs.Common.{◌≡◌, ◌+◌, take, Contains}
use Rattle.tabulate.specs.Methods.{AreMethods}
use Rattle.tabulate.specs.Found.{total}
use Rattle.widening.specs.Edges.{Widened}
use Rattle.widening.specs.Pairs.{IsAskedStep, KeepsMet}
use Rattle.widening.proofs.asking.ask_all.Given as goal

abbrev pub invariant-loop-exit : goal.invariant-loop-exit
invariant-loop-exit g l = record {
  graphs : g.G.Graphs.sound l.graphs × g.G.Graphs.later l.initial.graphs l.graphs;
  methods : AreMethods l.f l.methods.items × KeepsMet l.initial.methods.items l.methods.items;
  step : IsAskedStep l.f (Widened l.f l.expansions) (Contains (take l.exit-index l.exits)) l.methods.items l.initial.pairs l.pairs l.initial.tally l.tally;
  turns : l.tally + total l.initial.pairs.found.items ≡ l.initial.tally + total l.pairs.found.items;
}
