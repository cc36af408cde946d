use Rattle.method_graph.proofs.Words.{bits_added}
use Rattle.method_graph.proofs.flow.add_bits.Goals as goal

pub returns-clause-adds : goal.returns-clause-adds
returns-clause-adds c = bits_added c.args.words.now.items c.args.place c.index-old.result.now c.args.bits c.requires c.index-old.ensures c.type_inv.words c.if-new-old.false
