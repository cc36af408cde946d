use Rattle.std.proofs.Common.{ap, ◌∙◌, map}
use Rattle.reaching_defs.specs.Facts.{pair_of, def_of}
use Rattle.reaching_defs.proofs.Tables.{ordered_defs, same_members}
use Rattle.reaching_defs.proofs.table.table.Goals as goal

pub returns : goal.returns
returns c = λ pc slot defs are.
    let all = c.in_ok-all.all.items in
    let places = c.split.ensures.places ∙ ap (map pair_of) c.as_slice-3.ensures.value in
    let defs_are = c.split.ensures.defs ∙ ap (map def_of) c.as_slice-3.ensures.value in
    same_members all c.args.facts.items pc slot defs c.in_ok-all.ensures.members
    (ordered_defs c.split.result all c.in_ok-all.ensures.order places defs_are pc slot are.0 are.1 defs are.2 are.3)
