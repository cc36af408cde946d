use Rattle.std.proofs.Common.{ℕ, List, refl, rules, sym, ap, ◌∙◌, inl, inr}
use Rattle.slicer_ids.specs.declared.ids.ClassId.{ClassId}
use Rattle.slicer_ids.specs.declared.ids.Statement.{Statement}
use Rattle.dep_form.specs.Orders.{line_cmp}
use Rattle.dep_form.specs.Keys.{key_of_line}
use Rattle.dep_form.proofs.Searching.{found_by, missed_by, one_line, line_total, same_line, read_at}
use Rattle.dep_form.proofs.facts.Facts.at_line.Goals as goal

pub returns-in-Ok : goal.returns-in-Ok
returns-in-Ok c =
    let key : ClassId × ℕ = (c.args.c, c.args.line) in
    let h = found_by line_cmp line_total key_of_line _ c.args.self.now.lines key c.in-Ok.k c.items-lines.ensures (λ a r f' k. search rules) c.in-Ok.ensures.bound c.in-Ok.ensures.position in
    let e = one_line (key_of_line h.0) key h.2 in
    inl (c.in-Ok.k, h.0, h.1, e.0, e.1, sym (c.items.ensures ∙ ap (λ (x : ClassId × ℕ × List Statement). x.2) (read_at _ c.args.self.now.lines c.in-Ok.k h.0 _ c.items-lines.ensures h.1)))

pub returns-in-Err : goal.returns-in-Err
returns-in-Err c =
    let key : ClassId × ℕ = (c.args.c, c.args.line) in
    inr (
      refl,
      λ k x at a b.
          missed_by line_cmp line_total key_of_line _ c.args.self.now.lines key _ c.items-lines.ensures (λ a r f' h. search rules) c.args.self.now.lines_rise c.in-Err.ensures.position k x at (same_line (key_of_line x) key a b),
    )
