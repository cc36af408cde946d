use Rattle.std.proofs.Common.{ap, ◌∙◌}
use Rattle.edge_io.specs.declared.host.Entry.TheVariants.{File}
use Rattle.edge_io.proofs.Places.{Stored, set_is_insert}
use Rattle.edge_io.proofs.stored.set_file.Goals as goal

pub returns-clause-files : goal.returns-clause-files
returns-clause-files c = λ path p.
    set_is_insert c.args.files.now.items path c.args.place (c.index_mut.result.now.0, File c.args.bytes) p
    (ap (λ (s : Stored). s.0) c.index_mut.ensures.value ∙ p.there c.index_mut.result.now)
