use Rattle.std.proofs.Common.{sym, ◌∙◌}
use Rattle.std.proofs.lemmas.Result.{on_ok_weaker}
use Rattle.mod_ref.proofs.Gaining.{gains_none, gains_same}
use Rattle.text_tables.specs.LineGroups.{IsPlaceOf}
use Rattle.text_tables.proofs.LineTables.{entry_place}
use Rattle.text_tables.proofs.lines.add_entry.Goals as goal

pub returns-in-Some : goal.returns-in-Some
returns-in-Some c = on_ok_weaker c.push.result
    (λ h. gains_same c.args.places.now.items c.push.new.places.items _ (IsPlaceOf c.args.class c.args.m c.args.entry) (entry_place c.args.class c.args.m c.args.entry c.in-Some.line c.in-Some.is) h) c.push.ensures

pub returns-in-None : goal.returns-in-None
returns-in-None c = gains_none c.args.places.now.items (IsPlaceOf c.args.class c.args.m c.args.entry) (λ x h. absurd (cc (sym c.in-None.is ∙ h.0)))
