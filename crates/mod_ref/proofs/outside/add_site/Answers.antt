use Rattle.std.proofs.Common.{◌≡◌, sym, ◌∙◌}
use Rattle.mod_ref.specs.Direct.{AtSite, cell}
use Rattle.mod_ref.proofs.Touched.{told}
use Rattle.mod_ref.proofs.Passing.{some_field}
use Rattle.mod_ref.proofs.outside.add_site.Goals as goal

pub returns-in-Some : goal.returns-in-Some
returns-in-Some c =
    let s = c.args.system.now in
    told c.add.result c.args.effects.now.items.items c.add.new.self.items.items (λ x. x ≡ cell c.args.site c.in-Some.field c.args.method) (AtSite s c.args.elements c.args.method c.args.site)
    (some_field s c.args.elements c.args.method c.args.site c.in-Some.field (sym c.field_of.ensures ∙ c.in-Some.is)) c.add.ensures
