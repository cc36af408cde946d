use Rattle.std.proofs.Common.{◌≡◌, sym, ◌∙◌}
use Rattle.mod_ref.proofs.Members.{some_element, no_element}
use Rattle.node_tables.proofs.Calls.{not_empty, was_empty}
use Rattle.node_tables.proofs.statements.is_something.Goals as goal

pub returns : goal.returns
returns c = λ s solved. (
  λ t. let e = some_element c.sites_of.result.now (sym c.is_empty.ensures ∙ was_empty c.is_empty.result t) in (e.0, (c.sites_of.ensures s e.0 solved).0 e.1),
  λ h. not_empty c.is_empty.result (λ t. no_element c.sites_of.result.now h.0 (sym c.is_empty.ensures ∙ t) ((c.sites_of.ensures s h.0 solved).1 h.1)),
)
