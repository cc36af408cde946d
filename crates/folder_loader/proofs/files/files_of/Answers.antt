use Rattle.std.proofs.Common.{rules}
use Rattle.folder_loader.proofs.Told.{files_told, limit_told}
use Rattle.folder_loader.proofs.files.files_of.Goals as goal

pub returns-in-Ok-clause-files : goal.returns-in-Ok-clause-files
returns-in-Ok-clause-files g c =
    let f = c.in-Ok.files in
    files_told (g.H.Host.files c.args.host.now) c.args.folder.now f.paths.items f.contents.items c.in-Ok.ensures.walk c.in-Ok.ensures.reading

pub returns-in-Err-clause-refused : goal.returns-in-Err-clause-refused
returns-in-Err-clause-refused g c = λ line e.
    limit_told (g.H.Host.files c.args.host.now) c.args.folder.now c.in-Err.error line (c.unread.ensures.line line (search rules)) (λ kind count h. c.in-Err.ensures.limit kind count h)
