use Rattle.std.proofs.Common.{arith}
use Rattle.std.proofs.lemmas.Result.{on_ok_weaker}
use Rattle.site_tables.specs.declared.table.Table.{Table}
use Rattle.site_tables.proofs.AddedSites.{adds_made}
use Rattle.site_tables.proofs.table.push_made.Goals as goal

pub returns-then-count-le-SITES : goal.returns-then-count-le-SITES
returns-then-count-le-SITES c = λ p of made.
    let new : Table = record { infos = c.push_infos.new.infos; count = c.in-Some.count } in
    on_ok_weaker c.push_infos.result
    (λ add. adds_made c.args.h.now p of c.args.place c.args.made made c.args.table.now new (omega (arith, c.in-Some.ensures.1, c.count.ensures)) (λ le. add)) c.push_infos.ensures

pub returns-else-count-le-SITES : goal.returns-else-count-le-SITES
returns-else-count-le-SITES c = λ p of made.
    let new : Table = record { infos = c.args.table.now.infos; count = c.in-Some.count } in
    adds_made c.args.h.now p of c.args.place c.args.made made c.args.table.now new (omega (arith, c.in-Some.ensures.1, c.count.ensures)) (λ le. absurd (omega (arith, le, c.if-count-le-SITES.false)))
