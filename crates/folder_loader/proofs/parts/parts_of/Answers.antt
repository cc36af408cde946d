use Rattle.std.proofs.Common.{rules}
use Rattle.std.specs.Prelude.{option_map}
use Rattle.folder_loader.proofs.Program.{loaded_program}
use Rattle.folder_loader.proofs.parts.parts_of.Goals as goal

pub returns-clause-program : goal.returns-clause-program
returns-clause-program c =
    let n = c.numbered.ensures in
    loaded_program c.args.hierarchy (option_map (λ b. b.now) c.args.main) n.0 n.1 c.in_ok-bodies.bodies.items c.in_ok-entries.entries c.requires n.2 n.3 c.in_ok-bodies.ensures.bodies
    c.in_ok-entries.ensures.entries

pub returns-in_err-entries-clause-refused : goal.returns-in_err-entries-clause-refused
returns-in_err-entries-clause-refused c = λ line e. c.entries_of.ensures.refused line (search rules)
