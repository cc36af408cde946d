use Rattle.std.proofs.Common.{refl, rules}
use Rattle.hierarchy.specs.Places.{texts_of, texts_cmp}
use Rattle.hierarchy.proofs.Keys.{texts_total}
use Rattle.dep_form.proofs.Searching.{found_by, missed_by}
use Rattle.signature_tables.specs.TextPairs.{texts_in}
use Rattle.signature_tables.proofs.TextOrder.{texts_rise, text_found, text_missed}
use Rattle.signature_tables.proofs.texts.place_of.Goals as goal

pub returns-in-Ok-clause-found : goal.returns-in-Ok-clause-found
returns-in-Ok-clause-found c =
    text_found c.args.texts.now c.in-Ok.place c.args.name.now c.args.descriptor.now
    (found_by texts_cmp texts_total texts_in _ c.args.texts.now (texts_of c.args.name.now c.args.descriptor.now) c.in-Ok.place refl (λ a r f' k. search rules) c.in-Ok.ensures.bound c.in-Ok.ensures.position)

pub returns-in-Err-clause-missed : goal.returns-in-Err-clause-missed
returns-in-Err-clause-missed c =
    text_missed c.args.texts.now c.args.name.now c.args.descriptor.now
    (missed_by texts_cmp texts_total texts_in _ c.args.texts.now (texts_of c.args.name.now c.args.descriptor.now) _ refl (λ a r f' h. search rules) (texts_rise c.args.texts.now c.requires) c.in-Err.ensures.position)
