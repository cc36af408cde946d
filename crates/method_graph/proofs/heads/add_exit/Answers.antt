use Rattle.std.proofs.lemmas.Result.{on_ok_weaker}
use Rattle.dep_form.specs.declared.node.Node.TheVariants.{HeapOut}
use Rattle.method_graph.proofs.Standing.{head_added, out_one}
use Rattle.method_graph.proofs.heads.add_exit.Goals as goal

pub returns-in-HeapOut : goal.returns-in-HeapOut
returns-in-HeapOut c = on_ok_weaker c.add.result (λ m. head_added (λ l. HeapOut l) out_one c.args.node c.in-HeapOut.location c.args.number c.head.result _ _ c.in-HeapOut.is c.head.ensures m) c.add.ensures.grown
