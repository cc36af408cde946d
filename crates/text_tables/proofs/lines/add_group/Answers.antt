use Rattle.text_tables.proofs.LineTables.{fewer_places, one_group}
use Rattle.text_tables.proofs.lines.add_group.Goals as goal

pub returns-clause-fewer : goal.returns-clause-fewer
returns-clause-fewer c =
    fewer_places c.args.places.now c.place_at-first.result.now c.run_len.result c.split_at.result.1.now c.place_at-first.ensures c.run_len.ensures.within c.run_len.ensures.end c.split_at.ensures.back

pub returns-clause-runs : goal.returns-clause-runs
returns-clause-runs c =
    one_group c.args.places.now c.place_at-first.result.now c.run_len.result c.split_at.result.0.now c.split_at.result.1.now c.in_ok-statements.statements.items c.from_vec.result c.args.groups.now.items c.push_group.new.groups.items
    c.place_at-first.ensures c.run_len.ensures.within c.run_len.ensures.same c.run_len.ensures.end c.split_at.ensures.front c.split_at.ensures.back c.in_ok-statements.ensures c.from_vec.ensures c.in_ok-push_group.ensures
