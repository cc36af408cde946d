use Rattle.std.proofs.Common.{◌≡◌, ◌++◌, ◌∷◌, [], List, map, ap, ◌∙◌}
use Rattle.std.proofs.lemmas.List.{take_all}
use Rattle.class_form.specs.declared.class_file.ClassFile.{ClassFile}
use Rattle.hierarchy.specs.Names.{name_bytes}
use Rattle.mod_ref.proofs.Tables.{map_more}
use Rattle.text_tables.proofs.ClassNames.{names_are}
use Rattle.text_tables.proofs.classes.class_names.Goals as goal

pub loop-class-preserved : goal.loop-class-preserved
loop-class-preserved c =
    c.in_ok-add_name.ensures ∙ ap (λ (k : ClassFile). c.loop-class.names.items ++ name_bytes k ∷ []) c.class-item.is
    ∙ map_more name_bytes c.classes-class-items.result.now c.loop-class.class-index c.class-item.result c.loop-class.names.items c.loop-class-test.true c.loop-class.invariant

pub returns : goal.returns
returns c =
    let whole : c.loop-class.names.items ≡ map name_bytes c.args.h.now =
    c.loop-class.invariant ∙ ap (λ (ks : List ClassFile). map name_bytes ks) (take_all c.loop-class.class-index c.classes-class-items.result.now c.loop-class-test.false ∙ c.classes-class-items.ensures.classes) in
    names_are c.args.h.now c.requires.named c.from_vec.result (c.from_vec.ensures ∙ whole)
