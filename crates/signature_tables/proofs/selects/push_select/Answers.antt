use Rattle.std.proofs.Common.{◌+◌, map, Some, None, sym, subst, arith}
use Rattle.std.proofs.lemmas.List.{length-map}
use Rattle.std.proofs.lemmas.Result.{on_ok_weaker}
use Rattle.class_form.proofs.Indices.{index_at}
use Rattle.signature_tables.specs.TextPairs.{pair_of}
use Rattle.signature_tables.specs.Selections.{AreChoicesUpTo}
use Rattle.signature_tables.proofs.Choosing.{chosen, none_chosen}
use Rattle.signature_tables.proofs.selects.push_select.Goals as goal

pub returns-in-Folder : goal.returns-in-Folder
returns-in-Folder c =
    let gs = map pair_of c.args.signatures.now in
    let x = index_at gs c.args.signature (omega (arith, c.requires.signature, length-map c.args.signatures.now pair_of)) in
    on_ok_weaker c.push.result (λ e. subst (AreChoicesUpTo c.args.h.now gs c.args.signature (c.args.class + 1)) (sym e)
    (chosen c.args.h.now gs c.args.signature c.args.class (Some c.in-Folder.method) x.0 c.args.choices.now.items x.1 c.requires.class (c.in-Folder.ensures x.0 x.1) c.requires.choices)) c.push.ensures

pub returns-in-Abstract : goal.returns-in-Abstract
returns-in-Abstract c =
    let gs = map pair_of c.args.signatures.now in
    let x = index_at gs c.args.signature (omega (arith, c.requires.signature, length-map c.args.signatures.now pair_of)) in
    on_ok_weaker c.push-in-Abstract.result (λ e. subst (AreChoicesUpTo c.args.h.now gs c.args.signature (c.args.class + 1)) (sym e)
    (chosen c.args.h.now gs c.args.signature c.args.class None x.0 c.args.choices.now.items x.1 c.requires.class (c.in-Abstract.ensures x.0 x.1) c.requires.choices)) c.push-in-Abstract.ensures

pub returns-in-Outside : goal.returns-in-Outside
returns-in-Outside c =
    let gs = map pair_of c.args.signatures.now in
    let x = index_at gs c.args.signature (omega (arith, c.requires.signature, length-map c.args.signatures.now pair_of)) in
    none_chosen c.args.h.now gs c.args.signature c.args.class x.0 c.args.choices.now.items x.1 (c.in-Outside.ensures x.0 x.1) c.requires.choices
