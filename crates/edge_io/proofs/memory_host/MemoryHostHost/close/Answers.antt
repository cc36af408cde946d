use Rattle.std.proofs.Common.{ℕ, List, ap, subst, ◌∙◌}
use Rattle.std.specs.FinMap as map
use Rattle.edge_io.specs.declared.host.Entry.TheVariants.{File}
use Rattle.edge_io.specs.Files.{Files}
use Rattle.edge_io.specs.Paths.{IsPlaceOf, files_in}
use Rattle.edge_io.proofs.Places.{insert_keeps}
use Rattle.edge_io.proofs.memory_host.MemoryHostHost.close.Goals as goal

pub returns-in-Some-clause-others : goal.returns-in-Some-clause-others
returns-in-Some-clause-others c = λ q ne.
    let p = subst (λ (l : List ℕ). IsPlaceOf c.args.self.now.files.items l c.in-Some.place) c.into_parts-label.ensures.label c.in-Some.ensures.0 in
    ap (λ (m : Files). map.get m q) (c.set_file.ensures.files c.args.out.label p) ∙ insert_keeps (files_in c.args.self.now.files.items) c.args.out.label (File c.into_parts-label.result.1) q ne
