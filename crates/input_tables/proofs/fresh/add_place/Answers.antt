use Rattle.std.proofs.Common.{◌≡◌, List, length, sym, ap, subst, arith}
use Rattle.std.proofs.lemmas.Option.{slice_get_within}
use Rattle.dep_form.specs.declared.call_site.CallSite.{CallSite}
use Rattle.method_facts.specs.Calls.{ArePlaced, IsCallAt}
use Rattle.mod_ref.proofs.Gaining.{gains_none}
use Rattle.mod_ref.proofs.Touched.{told}
use Rattle.input_tables.specs.Effects.{AtCallOf, AtPlace}
use Rattle.input_tables.proofs.Collecting.{place_is}
use Rattle.input_tables.proofs.fresh.add_place.Goals as goal

pub find_call-requires-clause-placed : goal.find_call-requires-clause-placed
find_call-requires-clause-placed c = subst ArePlaced (sym c.items.ensures) c.requires.placed

pub find_call-requires-clause-few : goal.find_call-requires-clause-few
find_call-requires-clause-few c = omega (arith, c.requires.small.1, ap (λ (ks : List CallSite). length ks) c.items.ensures)

pub returns-in-None : goal.returns-in-None
returns-in-None c = gains_none c.args.effects.now.items (AtPlace c.args.scene.now.system.now c.args.scene.now.effects.now c.args.site c.args.at) (λ x (d, at, a). c.in-None.ensures d (subst (λ (ks : List CallSite). IsCallAt ks c.args.at d) (sym c.items.ensures) at))

pub add_call-requires-clause-call : goal.add_call-requires-clause-call
add_call-requires-clause-call c = let w = c.in-Some.ensures in omega (arith, slice_get_within c.items.result.now c.in-Some.c.0 w.0 w.1, ap (λ (ks : List CallSite). length ks) c.items.ensures)

pub returns-in-Some : goal.returns-in-Some
returns-in-Some c = told c.add_call.result c.args.effects.now.items c.add_call.new.effects.items (AtCallOf c.args.scene.now.system.now c.args.scene.now.effects.now c.in-Some.c c.args.site c.args.at) (AtPlace c.args.scene.now.system.now c.args.scene.now.effects.now c.args.site c.args.at)
    (place_is c.args.scene.now.system.now c.args.scene.now.effects.now c.args.site c.requires.placed c.args.at c.in-Some.c (subst (λ (ks : List CallSite). IsCallAt ks c.args.at c.in-Some.c) c.items.ensures c.in-Some.ensures)) c.add_call.ensures
