use Rattle.std.proofs.Common.{List, refl, rules, sym, ap, ◌∙◌, inl, inr, Some}
use Rattle.std.proofs.lemmas.Cmp.{tied_itself}
use Rattle.slicer_ids.specs.declared.ids.Statement.{Statement}
use Rattle.slicer_ids.specs.declared.ids.SiteId.{SiteId}
use Rattle.dep_form.specs.Orders.{statement_cmp}
use Rattle.dep_form.specs.Keys.{key_of_value}
use Rattle.dep_form.proofs.Searching.{found_by, missed_by, one_statement, statement_total, read_at}
use Rattle.dep_form.proofs.facts.Facts.value_sites.Goals as goal

pub returns-in-Ok : goal.returns-in-Ok
returns-in-Ok c =
    let h = found_by statement_cmp statement_total key_of_value _ c.args.self.now.values c.args.s c.in-Ok.k c.items-values.ensures (λ a r f' k. search rules) c.in-Ok.ensures.bound c.in-Ok.ensures.position in
    inl (c.in-Ok.k, h.1 ∙ ap (λ x. Some x) (ap (λ s. (s, h.0.1)) (one_statement _ _ h.2) ∙ ap (λ hs. (c.args.s, hs)) (sym (c.items.ensures ∙ ap (λ (x : Statement × List SiteId). x.1) (read_at _ c.args.self.now.values c.in-Ok.k h.0 _ c.items-values.ensures h.1)))))

pub returns-in-Err : goal.returns-in-Err
returns-in-Err c = inr (
  refl,
  λ k hs at.
      missed_by statement_cmp statement_total key_of_value _ c.args.self.now.values c.args.s _ c.items-values.ensures (λ a r f' h. search rules) c.args.self.now.values_rise c.in-Err.ensures.position k (c.args.s, hs) at (tied_itself statement_total c.args.s),
)
