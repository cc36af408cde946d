use Rattle.std.proofs.Common.{◌∙◌}
use Rattle.edge_io.specs.declared.host.Entry.TheVariants.{File}
use Rattle.edge_io.proofs.Places.{pushed_is_insert}
use Rattle.edge_io.proofs.stored.put_file.Goals as goal

pub returns-in_ok-push-in-None-clause-files : goal.returns-in_ok-push-in-None-clause-files
returns-in_ok-push-in-None-clause-files c =
    pushed_is_insert c.args.files.now.items c.push.new.self.items c.as_slice.result.now c.args.path.now c.as_bytes.result.now (c.from_string.result, File c.args.bytes) c.in-None.ensures c.as_slice.ensures.value c.as_bytes.ensures.value c.in_ok-push-in-None.ensures.items
    (c.from_string.ensures ∙ c.in_ok-path-in-None.ensures.ok)
