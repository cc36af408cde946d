use Rattle.std.proofs.Common.{◌⊎◌, ℕ, List, subst}
use Rattle.std.specs.Prelude.{OnOk}
use Rattle.worklists.specs.Growth.{FromOne}
use Rattle.mod_ref.specs.Gains.{Gains}
use Rattle.mod_ref.proofs.Touched.{both_told}
use Rattle.input_tables.specs.Control.{IsStepFrom, IsStepTo}
use Rattle.input_tables.proofs.flow.add_point.Goals as goal

pub returns : goal.returns
returns c =
    let xs = c.args.points.now in
    let t = c.args.point.now in
    let old = c.args.steps.now.items in
    let mid = c.add_pcs.new.steps.items in
    let new = c.add_pcs-2.new.steps.items in
    let one = subst (λ (pcs : List ℕ). Gains old mid (FromOne (IsStepTo xs c.args.from) pcs)) c.items.ensures c.in_ok-add_pcs.ensures in
    let other = subst (λ (pcs : List ℕ). OnOk c.add_pcs-2.result (Gains mid new (FromOne (IsStepTo xs c.args.from) pcs))) c.items-2.ensures c.add_pcs-2.ensures in
    both_told c.add_pcs-2.result old mid new (FromOne (IsStepTo xs c.args.from) t.next) (FromOne (IsStepTo xs c.args.from) t.handlers) (IsStepFrom xs t c.args.from) (λ x. (λ h. h, λ h. h)) one other
