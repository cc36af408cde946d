use Rattle.std.proofs.Common.{rules, ◌∙◌}
use Rattle.folder_reader.proofs.Both.{walk_limit, reading_told, reading_limit, no_gap}
use Rattle.folder_reader.proofs.folder.read_folder.Goals as goal

pub returns-in_err-paths-clause-limit : goal.returns-in_err-paths-clause-limit
returns-in_err-paths-clause-limit g c = λ kind count e. walk_limit (g.H.Host.files c.args.host.now) c.args.folder.now kind count (c.class_files.ensures.too_many kind count (search rules))

pub returns-in_err-bytes-clause-limit : goal.returns-in_err-bytes-clause-limit
returns-in_err-bytes-clause-limit g c = λ kind count e.
    let p = c.in_ok-paths in
    reading_limit (g.H.Host.files c.args.host.now) (g.H.Host.files c.class_files.new.host) c.args.folder.now p.paths.items c.deref.result.now p.ensures.keeps.same_files c.deref.ensures.value kind count p.ensures.found
    (c.contents.ensures.too_long kind count (search rules))

pub returns-in_err-bytes-clause-cause : goal.returns-in_err-bytes-clause-cause
returns-in_err-bytes-clause-cause g c = λ e steady.
    let p = c.in_ok-paths in
    no_gap (g.H.Host.files c.args.host.now) (g.H.Host.files c.class_files.new.host) c.args.folder.now p.paths.items c.deref.result.now p.ensures.keeps.same_files c.deref.ensures.value p.ensures.found
    (c.contents.ensures.cause (search rules) (p.ensures.goes.same_host ∙ steady))

pub returns-clause-reading : goal.returns-clause-reading
returns-clause-reading g c =
    let p = c.in_ok-paths in
    reading_told (g.H.Host.files c.args.host.now) (g.H.Host.files c.class_files.new.host) c.args.folder.now p.paths.items c.deref.result.now p.ensures.keeps.same_files c.deref.ensures.value c.in_ok-bytes.bytes.items c.in_ok-bytes.ensures.found
