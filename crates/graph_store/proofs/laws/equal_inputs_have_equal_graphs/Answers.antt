use Rattle.std.proofs.Common.{subst}
use Rattle.dep_form.specs.declared.input.MethodInput.{MethodInput}
use Rattle.dep_form.specs.Graphs.{IsGraphOf}
use Rattle.graph_store.proofs.Slots.{one_input}
use Rattle.graph_store.proofs.OneGraph.{one_graph_of}
use Rattle.graph_store.proofs.laws.equal_inputs_have_equal_graphs.Goals as goal

pub returns-clause-graphs : goal.returns-clause-graphs
returns-clause-graphs c = one_graph_of

pub returns-clause-passes : goal.returns-clause-passes
returns-clause-passes c = λ a b p q m i g h left right x y.
    one_graph_of i g h
    (subst (λ (j : MethodInput). IsGraphOf j g) (one_input a m x.input i x.is_input left) x.right)
    (subst (λ (j : MethodInput). IsGraphOf j h) (one_input b m y.input i y.is_input right) y.right)
