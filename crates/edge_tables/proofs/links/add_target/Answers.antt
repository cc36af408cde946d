use Rattle.std.proofs.Common.{◌≡◌, sym, ◌∙◌}
use Rattle.mod_ref.proofs.Touched.{told}
use Rattle.edge_tables.specs.Links.{IsLinkTo}
use Rattle.edge_tables.proofs.links.add_target.Goals as goal

pub returns : goal.returns
returns c = told c.push.result c.args.links.now.items c.push.new.links.items (λ x. x ≡ c.link_of.result) (IsLinkTo c.args.by_target c.args.number c.args.place c.args.target)
    (λ x. (λ e. e ∙ c.link_of.ensures, λ e. e ∙ sym c.link_of.ensures)) c.push.ensures
