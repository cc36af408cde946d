use Rattle.edge_io.proofs.Places.{no_file_nowhere, place_moved, file_there, folder_there}
use Rattle.edge_io.proofs.memory_host.MemoryHost.file_place.Goals as goal

pub returns-in_default : goal.returns-in_default
returns-in_default c = no_file_nowhere c.args.self.now.files.items c.as_slice.result.now c.args.path.now c.bytes.result.now c.in_default.ensures c.as_slice.ensures.value c.bytes.ensures

pub returns-in-File : goal.returns-in-File
returns-in-File c =
    let p = place_moved c.args.self.now.files.items c.as_slice.result.now c.args.path.now c.bytes.result.now c.in-Some.place c.in-Some.ensures c.as_slice.ensures.value c.bytes.ensures in
    (p, file_there c.args.self.now.files.items c.args.path.now c.in-Some.place c.index.result.now c.in-File.field-0 p c.index.ensures c.in-File.is)

pub returns-in-Folder : goal.returns-in-Folder
returns-in-Folder c =
    let p = place_moved c.args.self.now.files.items c.as_slice.result.now c.args.path.now c.bytes.result.now c.in-Some.place c.in-Some.ensures c.as_slice.ensures.value c.bytes.ensures in
    folder_there c.args.self.now.files.items c.args.path.now c.in-Some.place c.index.result.now p c.index.ensures c.in-Folder.is
