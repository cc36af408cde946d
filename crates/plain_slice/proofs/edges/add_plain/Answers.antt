use Rattle.std.proofs.Common.{◌≡◌, ap, ◌∙◌, sym}
use Rattle.std.proofs.lemmas.Result.{on_ok_weaker}
use Rattle.dep_form.specs.declared.node.Edge.{Edge}
use Rattle.dep_form.specs.declared.node.Label.{Label}
use Rattle.worklists.proofs.Growing.{Grows-same}
use Rattle.plain_slice.specs.Edges.{IsPlainOf}
use Rattle.plain_slice.proofs.edges.add_plain.Goals as goal

pub returns : goal.returns
returns c =
    let g = c.args.edge in
    let made : Label → Edge = λ l. record { from = g.from; to = g.to; label = l } in
    let is = ap made c.plain_label.ensures in
    on_ok_weaker c.add.result (Grows-same c.args.edges.now.items c.add.new.items.items (λ e. e ≡ made c.plain_label.result) (IsPlainOf g) (λ e h. h ∙ is) (λ e h. h ∙ sym is)) c.add.ensures.grown
