use Rattle.std.proofs.Common.{subst, ◌∙◌}
use Rattle.dep_form.specs.LookUps.{HasLineIn}
use Rattle.dep_form.proofs.Searching.{read_at}
use Rattle.dep_form.proofs.facts.Facts.line.Goals as goal

pub returns : goal.returns
returns c =
    let h = c.requires in
    let read = read_at c.items.result.now c.args.self.now.methods c.args.s.method.0 h.0 c.index-items-s.result c.items.ensures h.1 in
    (h.0, h.1, subst (λ t. HasLineIn t c.args.s.pc c.line_in.result) (c.index-items-s.is ∙ read) c.line_in.ensures)
