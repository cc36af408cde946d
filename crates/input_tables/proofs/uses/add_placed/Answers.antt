use Rattle.std.proofs.Common.{◌≡◌, ◌+◌, sym, ◌∙◌}
use Rattle.mod_ref.proofs.Gaining.{gains_none}
use Rattle.mod_ref.proofs.Touched.{told}
use Rattle.input_tables.specs.Uses.{IsPlacedUse, use_of}
use Rattle.input_tables.proofs.MethodUses.{placed_is}
use Rattle.input_tables.proofs.uses.add_placed.Goals as goal

pub returns-in-None : goal.returns-in-None
returns-in-None c = gains_none c.args.uses.now.items (IsPlacedUse c.args.first c.args.point c.args.place c.args.location) (λ x (i, e, f). cc (sym c.in-None.is ∙ e))

pub returns-in-Some : goal.returns-in-Some
returns-in-Some c = told c.push.result c.args.uses.now.items c.push.new.uses.items (λ x. x ≡ use_of c.args.point (c.args.first + c.in-Some.i) c.args.location) (IsPlacedUse c.args.first c.args.point c.args.place c.args.location)
    (placed_is c.args.first c.args.point c.in-Some.i c.args.place c.args.location c.in-Some.is) c.push.ensures
