use Rattle.std.proofs.Common.{◌≡◌}
use Rattle.std.proofs.lemmas.Result.{on_ok_weaker}
use Rattle.worklists.proofs.Growing.{Grows-same}
use Rattle.plain_slice.specs.Edges.{Counts}
use Rattle.plain_slice.proofs.edges.add_counted.Goals as goal

pub returns-then-does_count : goal.returns-then-does_count
returns-then-does_count c =
    on_ok_weaker c.add.result (Grows-same c.args.edges.now.items c.add.new.items.items (λ e. e ≡ c.args.edge) (λ e. Counts c.args.asked.now c.args.edge × (e ≡ c.args.edge)) (λ e is. (c.does_count.ensures.0 c.if-does_count.true, is)) (λ e h. h.1)) c.add.ensures.grown
