use Rattle.std.proofs.lemmas.Result.{on_ok_weaker}
use Rattle.dep_form.specs.declared.node.Node.TheVariants.{HeapIn}
use Rattle.method_graph.proofs.Standing.{head_added, in_one}
use Rattle.method_graph.proofs.heads.add_entry.Goals as goal

pub returns-in-HeapIn : goal.returns-in-HeapIn
returns-in-HeapIn c = on_ok_weaker c.add.result (λ m. head_added (λ l. HeapIn l) in_one c.args.node c.in-HeapIn.location c.args.number c.head.result _ _ c.in-HeapIn.is c.head.ensures m) c.add.ensures.grown
