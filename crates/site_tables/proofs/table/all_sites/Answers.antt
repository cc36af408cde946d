use Rattle.std.proofs.Common.{refl}
use Rattle.site_tables.specs.declared.table.Table.{Table}
use Rattle.site_tables.proofs.WholeTable.{whole}
use Rattle.site_tables.proofs.table.all_sites.Goals as goal

pub returns : goal.returns
returns c = λ p of e.
    let first : Table = record { infos = c.new.result; count = 0 } in
    whole p c.args.bodies.now first c.push_bodies.new.table c.push_root.new.table e refl c.new.ensures.items (c.in_ok-push_bodies.ensures p of e) (c.in_ok-push_root.ensures p of)
