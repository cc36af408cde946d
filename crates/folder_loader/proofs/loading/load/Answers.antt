use Rattle.std.proofs.Common.{rules}
use Rattle.std.specs.Prelude.{option_map}
use Rattle.folder_loader.proofs.Told.{files_refused, sound_refused, entry_refused, all_told}
use Rattle.folder_loader.proofs.loading.load.Goals as goal

pub returns-in_err-files-clause-refused : goal.returns-in_err-files-clause-refused
returns-in_err-files-clause-refused g c = λ line e.
    files_refused c.args.folder.now (option_map (λ b. b.now) c.args.main) (g.H.Host.files c.args.host.now) line (c.files_of.ensures.refused line (search rules))

pub hierarchy_in-requires-clause-below : goal.hierarchy_in-requires-clause-below
hierarchy_in-requires-clause-below g c = c.in_ok-files.ensures.below

pub hierarchy_in-requires-clause-number : goal.hierarchy_in-requires-clause-number
hierarchy_in-requires-clause-number g c = c.in_ok-files.ensures.number

pub hierarchy_in-requires-clause-total : goal.hierarchy_in-requires-clause-total
hierarchy_in-requires-clause-total g c = c.in_ok-files.ensures.total

pub returns-in_err-hierarchy-clause-refused : goal.returns-in_err-hierarchy-clause-refused
returns-in_err-hierarchy-clause-refused g c = λ line e.
    let f = c.in_ok-files.files in
    sound_refused c.args.folder.now (option_map (λ b. b.now) c.args.main) (g.H.Host.files c.args.host.now) f.paths.items f.contents.items line c.in_ok-files.ensures.files
    (c.hierarchy_in.ensures.refused line (search rules))

pub parts_of-requires : goal.parts_of-requires
parts_of-requires g c =
    let f = c.in_ok-files.files in
    let t = c.in_ok-hierarchy.ensures.tree in
    c.sound_files_have_sound_classes.ensures.hierarchy f.contents.items t.0 c.in_ok-hierarchy.hierarchy t.1 t.2

pub returns-clause-program : goal.returns-clause-program
returns-clause-program g c =
    let f = c.in_ok-files.files in
    let t = c.in_ok-hierarchy.ensures.tree in
    all_told c.args.folder.now (option_map (λ b. b.now) c.args.main) (g.H.Host.files c.args.host.now) f.paths.items f.contents.items t.0 c.in_ok-hierarchy.hierarchy c.in_ok-files.ensures.files t.1 t.2
    c.parts_of.result c.parts_of.ensures.classes c.parts_of.ensures.program

pub returns-clause-refused : goal.returns-clause-refused
returns-clause-refused g c = λ line e.
    let f = c.in_ok-files.files in
    let t = c.in_ok-hierarchy.ensures.tree in
    let r = c.parts_of.ensures.refused line e in
    entry_refused c.args.folder.now (option_map (λ b. b.now) c.args.main) (g.H.Host.files c.args.host.now) f.paths.items f.contents.items t.0 c.in_ok-hierarchy.hierarchy line c.in_ok-files.ensures.files t.1 t.2 r.0 r.1
