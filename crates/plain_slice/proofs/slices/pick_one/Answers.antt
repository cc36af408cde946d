use Rattle.std.proofs.Common.{◌≡◌, sym, ap, ◌∙◌}
use Rattle.std.proofs.lemmas.Result.{on_ok_weaker}
use Rattle.slicer_ids.specs.declared.ids.NodeId.{NodeId}
use Rattle.worklists.proofs.Growing.{Grows-same}
use Rattle.plain_slice.specs.declared.table.Pair.{Pair}
use Rattle.plain_slice.specs.Tables.{pair}
use Rattle.plain_slice.specs.Rules.{node}
use Rattle.plain_slice.proofs.slices.pick_one.Goals as goal

pub returns-then-found-eq1 : goal.returns-then-found-eq1
returns-then-found-eq1 c =
    let f = c.args.found in
    on_ok_weaker c.add.result (Grows-same c.args.nodes.now.items c.add.new.items.items (λ n. n ≡ node f.node) (λ (n : NodeId). f ≡ pair n.0 1)
    (λ n is. ap (λ k. pair f.node k) c.if-found-eq1.true ∙ ap (λ (m : NodeId). pair m.0 1) (sym is)) (λ n h. ap (λ (p : Pair). node p.node) (sym h))) c.add.ensures.grown
