use Rattle.std.proofs.Common.{rules, ◌≡◌, length, refl}
use Rattle.std.proofs.lemmas.Option.{slice_get_read}
use Rattle.edge_tables.proofs.rows.nodes_at.Goals as goal

pub returns : goal.returns
returns c = (c.index-rows-number.result, slice_get_read c.args.rows.now (length c.args.rows.now) c.args.number c.index-rows-number.result refl c.requires c.index-rows-number.is, search rules)
