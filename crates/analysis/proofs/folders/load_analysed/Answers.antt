use Rattle.std.proofs.Common.{rules}
use Rattle.std.specs.Prelude.{option_map}
use Rattle.analysis.proofs.Accepting.{folder_refused}
use Rattle.analysis.proofs.Loading.{is_of}
use Rattle.analysis.proofs.folders.load_analysed.Goals as goal

pub analyse-requires : goal.analyse-requires
analyse-requires g c =
    let (p, parts, loaded, told) = c.in_ok-loaded.ensures.program in
    (p, is_of (option_map (λ b. b.now) c.args.main) c.in_ok-loaded.loaded p parts loaded)

pub returns-in_err-analysed-clause-refused : goal.returns-in_err-analysed-clause-refused
returns-in_err-analysed-clause-refused g c = λ line e.
    let main = option_map (λ b. b.now) c.args.main in
    let (p, parts, loaded, told) = c.in_ok-loaded.ensures.program in
    folder_refused c.args.folder.now main p (g.H.Host.files c.args.host.now) line told (c.analyse.ensures.refused line (search rules) p (is_of main c.in_ok-loaded.loaded p parts loaded))

pub returns-clause-analysed : goal.returns-clause-analysed
returns-clause-analysed g c =
    let main = option_map (λ b. b.now) c.args.main in
    let (p, parts, loaded, told) = c.in_ok-loaded.ensures.program in
    let is = is_of main c.in_ok-loaded.loaded p parts loaded in
    (p, is, loaded, c.in_ok-analysed.ensures.analysed p is, told)
