use Rattle.std.proofs.lemmas.Option.{slice_get_within}
use Rattle.worklists.proofs.Growing.{Grows-same}
use Rattle.widening.specs.Marks.{OverCall, OverEdge}
use Rattle.widening.proofs.CallLaws.{edge_over}
use Rattle.widening.proofs.passing.pass_edge.Goals as goal

pub pass_call-requires-clause-exit : goal.pass_call-requires-clause-exit
pass_call-requires-clause-exit c = slice_get_within c.args.f.now.exits c.in-Some.exit.0 c.args.edge.from c.in-Some.ensures

pub returns-in_ok-pass_call-in-Return : goal.returns-in_ok-pass_call-in-Return
returns-in_ok-pass_call-in-Return c =
    let f = c.args.f.now in
    let ts = c.args.found.now.items in
    let e = c.args.edge in
    Grows-same c.args.into.now.items c.pass_call.new.into.items (OverCall f ts c.in-Some.exit c.in-Return.call) (OverEdge f ts e)
    (λ q h. (c.in-Some.exit, c.in-Return.call, c.in-Some.ensures, c.in-Return.is, h)) (λ q h. edge_over f ts e c.in-Some.exit c.in-Return.call c.in-Some.ensures c.in-Return.is q h) c.in_ok-pass_call-in-Return.ensures
