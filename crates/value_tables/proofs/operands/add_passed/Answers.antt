use Rattle.std.proofs.Common.{◌≡◌, ℕ, subst}
use Rattle.std.proofs.lemmas.Result.{on_ok_weaker}
use Rattle.slicer_ids.specs.declared.ids.SiteId.{SiteId}
use Rattle.mod_ref.proofs.Gaining.{gains_none, gains_same}
use Rattle.value_tables.specs.Values.{OperandHas, PassedHas}
use Rattle.value_tables.proofs.Gathered.{some_passed, none_passed}
use Rattle.value_tables.proofs.operands.add_passed.Goals as goal

pub returns-in-Some : goal.returns-in-Some
returns-in-Some c =
    let x = c.args.x.now in
    let q = c.args.point.now in
    on_ok_weaker c.add_operand.result
    (λ g. gains_same c.args.sites.now.items c.add_operand.new.sites.items (OperandHas x q c.in-Some.i) (PassedHas x q) (some_passed x q c.passed.result c.in-Some.i c.in-Some.is c.passed.ensures) g) c.add_operand.ensures

pub returns-in-None : goal.returns-in-None
returns-in-None c = gains_none c.args.sites.now.items (PassedHas c.args.x.now c.args.point.now) (none_passed c.args.x.now c.args.point.now c.passed.result c.in-None.is c.passed.ensures)
