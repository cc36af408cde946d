use Rattle.std.proofs.Common.{rules, ◌≡◌}
use Rattle.std.specs.Prelude.{IfOk, option_map}
use Rattle.analysis.proofs.Accepting.{folder_refused}
use Rattle.program_loader.proofs.Completed.{whole_told, known_of}
use Rattle.program_loader.proofs.loading.load.Goals as goal

pub completed-requires : goal.completed-requires
completed-requires g c =
    let (p, is, loaded, known, told) = c.in_ok-known.ensures.analysed in
    (p, is, known)

pub returns-clause-accepted : goal.returns-clause-accepted
returns-clause-accepted g c =
    let main = option_map (λ b. b.now) c.args.main in
    let (p, is, loaded, known, told) = c.in_ok-known.ensures.analysed in
    whole_told (g.H.Host.files c.args.host.now) c.args.folder.now main c.in_ok-known.known.0 p is loaded told c.completed.result c.completed.ensures.classes
    (known_of c.in_ok-known.known.0 c.in_ok-known.known.1 p is known c.completed.result c.completed.ensures.accepted)

pub returns-clause-refused : goal.returns-clause-refused
returns-clause-refused g c = λ line e.
    let main = option_map (λ b. b.now) c.args.main in
    let (p, is, loaded, known, told) = c.in_ok-known.ensures.analysed in
    folder_refused c.args.folder.now main p (g.H.Host.files c.args.host.now) line told (c.completed.ensures.refused line e p is known)
