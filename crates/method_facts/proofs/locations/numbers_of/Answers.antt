use Rattle.std.proofs.Common.{◌≡◌, List, Some, sym, ap, ◌∙◌}
use Rattle.std.proofs.lemmas.Bool.{ltb-true}
use Rattle.class_form.proofs.Indices.{read_at}
use Rattle.slicer_ids.specs.declared.ids.LocId.{LocId}
use Rattle.method_facts.proofs.LocNumbers.{has_list, has_past}
use Rattle.method_facts.proofs.locations.numbers_of.Goals as goal

pub returns-in-Some : goal.returns-in-Some
returns-in-Some c =
    let here = read_at c.args.lists.now c.args.m.0 c.in-Some.list.now (ltb-true _ _ (sym c.in-Some.ensures.lookup.0)) c.in-Some.ensures.lookup.1 in
    λ n. has_list c.args.lists.now c.args.m c.items.result.now (here ∙ ap (λ (ls : List LocId). Some ls) (sym c.items.ensures)) n

pub returns-in-None : goal.returns-in-None
returns-in-None c = λ n. has_past c.args.lists.now c.args.m c.in-None.ensures.lookup.3 n
