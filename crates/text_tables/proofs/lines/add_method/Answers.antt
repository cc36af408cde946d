use Rattle.std.proofs.lemmas.Result.{on_ok_weaker}
use Rattle.worklists.specs.Growth.{FromOne}
use Rattle.mod_ref.proofs.Gaining.{gains_same}
use Rattle.text_tables.specs.LineGroups.{IsPlaceAt, IsPlaceOf}
use Rattle.text_tables.proofs.LineTables.{method_places}
use Rattle.text_tables.proofs.lines.add_method.Goals as goal

pub returns : goal.returns
returns c = on_ok_weaker c.add_entries.result
    (λ h. gains_same c.args.places.now.items c.add_entries.new.places.items (FromOne (IsPlaceOf c.text_at-text.result.now.class (record { 0 = c.args.m })) c.items.result.now) (IsPlaceAt c.args.texts.now c.args.m)
    (method_places c.args.texts.now c.args.m c.text_at-text.result.now c.items.result.now c.items.ensures c.text_at-text.ensures) h) c.add_entries.ensures
