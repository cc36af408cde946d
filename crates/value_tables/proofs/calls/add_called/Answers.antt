use Rattle.std.proofs.Common.{◌≡◌, ◌<◌, List, length, sym, ap, subst, arith}
use Rattle.std.specs.Prelude.{MatchOption}
use Rattle.std.proofs.lemmas.Option.{slice_get_within}
use Rattle.std.proofs.lemmas.Result.{on_ok_weaker}
use Rattle.dep_form.specs.declared.call_site.CallSite.{CallSite}
use Rattle.method_facts.specs.Calls.{ArePlaced}
use Rattle.mod_ref.proofs.Gaining.{gains_none, gains_same}
use Rattle.value_tables.specs.Values.{CallHas, CalledHas}
use Rattle.value_tables.proofs.Called.{called_has, found_call, no_call}
use Rattle.value_tables.proofs.calls.add_called.Goals as goal

pub find_call-requires-clause-placed : goal.find_call-requires-clause-placed
find_call-requires-clause-placed c = subst ArePlaced (sym c.items.ensures) c.requires.placed

pub find_call-requires-clause-few : goal.find_call-requires-clause-few
find_call-requires-clause-few c = omega (arith, c.requires.few, ap (λ (ks : List CallSite). length ks) c.items.ensures)

pub add_call-requires-clause-c : goal.add_call-requires-clause-c
add_call-requires-clause-c c =
    let w = found_call c.args.x.now.system.now.calls c.items.result.now c.args.t c.find_call.result c.in-Some.c c.items.ensures c.in-Some.is c.find_call.ensures in
    slice_get_within c.args.x.now.system.now.calls c.in-Some.c.0 w.0 w.1

pub returns-in-Some : goal.returns-in-Some
returns-in-Some c =
    let s = c.args.x.now.system.now in
    let w = found_call s.calls c.items.result.now c.args.t c.find_call.result c.in-Some.c c.items.ensures c.in-Some.is c.find_call.ensures in
    on_ok_weaker c.add_call.result
    (λ g. gains_same c.args.sites.now.items c.add_call.new.sites.items (CallHas s w.0) (CalledHas s c.args.t) (called_has s c.args.t c.requires.placed c.in-Some.c w.0 w w.1) g) (c.add_call.ensures w.0 w.1)

pub returns-in-None : goal.returns-in-None
returns-in-None c =
    let s = c.args.x.now.system.now in
    gains_none c.args.sites.now.items (CalledHas s c.args.t) (λ h (d, k, there, at, g). no_call s.calls c.items.result.now c.args.t c.find_call.result d c.items.ensures c.in-None.is c.find_call.ensures there)
