use Rattle.std.proofs.Common.{◌∙◌, sym, arith}
use Rattle.std.proofs.lemmas.Option.{slice_get_within}
use Rattle.std.proofs.lemmas.Bool.{false≢true}
use Rattle.thin_slice.specs.Marks.{found}
use Rattle.tabulate.proofs.Fitting.{return_ends}
use Rattle.worklists.proofs.Growing.{Grows-none, Grows-same}
use Rattle.widening.specs.Marks.{OverCall, OverBack}
use Rattle.widening.proofs.passing.pass_back.Goals as goal

pub returns-else-has : goal.returns-else-has
returns-else-has c = Grows-none c.args.into.now.items (OverBack c.args.f.now c.args.found.now.items (found c.args.marks.now) c.args.back) (λ q h. false≢true (sym c.if-has.false ∙ c.has.ensures.1 h.0))

pub has-requires-clause-within : goal.has-requires-clause-within
has-requires-clause-within c = let b = c.requires.back.1 in let low = return_ends c.args.f.now b.0 c.args.back.to c.args.back.call b.2 in omega (arith, low, c.requires.marks.size)

pub pass_call-requires-clause-exit : goal.pass_call-requires-clause-exit
pass_call-requires-clause-exit c = let b = c.requires.back.1 in slice_get_within c.args.f.now.exits c.args.back.exit.0 b.0 b.1

pub returns-in_ok-pass_call : goal.returns-in_ok-pass_call
returns-in_ok-pass_call c =
    let f = c.args.f.now in
    let ts = c.args.found.now.items in
    Grows-same c.args.into.now.items c.pass_call.new.into.items (OverCall f ts c.args.back.exit c.args.back.call) (OverBack f ts (found c.args.marks.now) c.args.back) (λ q h. (c.has.ensures.0 c.if-has.true, h)) (λ q h. h.1) c.in_ok-pass_call.ensures
