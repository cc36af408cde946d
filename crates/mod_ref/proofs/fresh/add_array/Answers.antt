use Rattle.std.proofs.Common.{◌≡◌}
use Rattle.dep_form.specs.Constraints.{elements_field, length_field}
use Rattle.mod_ref.specs.Direct.{AtArray, cell}
use Rattle.mod_ref.proofs.Touched.{both_told}
use Rattle.mod_ref.proofs.fresh.add_array.Goals as goal

pub returns : goal.returns
returns c =
    let s = c.args.system.now in
    both_told c.add-2.result c.args.effects.now.items.items c.add.new.self.items.items c.add-2.new.self.items.items (λ x. x ≡ cell c.args.site (length_field s) c.args.method) (λ x. x ≡ cell c.args.site (elements_field s) c.args.method) (AtArray s c.args.site c.args.method)
    (λ x. (λ h. h, λ h. h)) c.in_ok-add.ensures c.add-2.ensures
