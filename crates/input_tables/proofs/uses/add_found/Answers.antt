use Rattle.std.proofs.Common.{◌≡◌, sym, ◌∙◌}
use Rattle.mod_ref.proofs.Gaining.{gains_none}
use Rattle.mod_ref.proofs.Touched.{told}
use Rattle.input_tables.specs.Uses.{IsFoundUse, IsPlacedUse}
use Rattle.input_tables.proofs.MethodUses.{found_is}
use Rattle.input_tables.proofs.uses.add_found.Goals as goal

pub returns-in-None : goal.returns-in-None
returns-in-None c = gains_none c.args.uses.now.items (IsFoundUse c.args.first c.args.point c.args.place c.args.location) (λ x (q, e, p). cc (sym c.in-None.is ∙ e))

pub returns-in-Some : goal.returns-in-Some
returns-in-Some c = told c.add_placed.result c.args.uses.now.items c.add_placed.new.uses.items (IsPlacedUse c.args.first c.in-Some.q c.args.place c.args.location) (IsFoundUse c.args.first c.args.point c.args.place c.args.location)
    (found_is c.args.first c.in-Some.q c.args.point c.args.place c.args.location c.in-Some.is) c.add_placed.ensures
