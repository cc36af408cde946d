use Rattle.std.proofs.Common.{arith}
use Rattle.std.proofs.lemmas.Result.{on_ok_weaker}
use Rattle.site_tables.specs.declared.table.Table.{Table}
use Rattle.site_tables.proofs.AddedSites.{adds_root}
use Rattle.site_tables.proofs.table.push_root.Goals as goal

pub returns-then-count-le-SITES : goal.returns-then-count-le-SITES
returns-then-count-le-SITES c = λ p of.
    let new : Table = record { infos = c.push_strings.new.infos; count = c.in-Some.count } in
    on_ok_weaker c.push_strings.result (λ add. adds_root c.args.h.now p of c.args.table.now new c.in-Some.ensures.1 (λ le. add)) c.push_strings.ensures

pub returns-else-count-le-SITES : goal.returns-else-count-le-SITES
returns-else-count-le-SITES c = λ p of.
    let new : Table = record { infos = c.args.table.now.infos; count = c.in-Some.count } in
    adds_root c.args.h.now p of c.args.table.now new c.in-Some.ensures.1 (λ le. absurd (omega (arith, le, c.if-count-le-SITES.false)))
