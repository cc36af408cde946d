use Rattle.std.proofs.Common.{◌≡◌, List, [], sym, subst, ◌∙◌}
use Rattle.std.proofs.lemmas.List.{get_or_read}
use Rattle.slicer_ids.specs.declared.ids.LocId.{LocId}
use Rattle.mod_ref.specs.Gains.{Gains}
use Rattle.mod_ref.specs.Rows.{list_of}
use Rattle.mod_ref.proofs.SetLists.{list_gains}
use Rattle.mod_ref.proofs.sets.add_to.Goals as goal

pub returns-clause-gain : goal.returns-clause-gain
returns-clause-gain c =
    let was : c.into_vec-list.result.items ≡ list_of c.args.lists.now.items c.args.m = c.into_vec-list.ensures ∙ c.replace.ensures.value ∙ get_or_read c.args.lists.now.items c.args.m c.index_mut.result.now c.requires.m c.index_mut.ensures.value [] in
    list_gains c.args.lists.now.items c.args.m c.replace.new.dest c.from_vec-2.result c.args.number c.requires.m
    (subst (λ (ns : List LocId). Gains (list_of c.args.lists.now.items c.args.m) ns (λ n. n ≡ c.args.number)) (sym c.from_vec-2.ensures) (subst (λ (ns : List LocId). Gains ns c.push_once.new.list.items (λ n. n ≡ c.args.number)) was c.in_ok-push_once.ensures.gain))
