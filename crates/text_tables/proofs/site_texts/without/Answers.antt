use Rattle.std.proofs.Common.{sym, arith}
use Rattle.std.proofs.lemmas.List.{drop_all}
use Rattle.text_tables.proofs.site_texts.without.Goals as goal

pub returns-else-k-bytes : goal.returns-else-k-bytes
returns-else-k-bytes c = sym (drop_all c.args.k c.args.bytes.now (omega (arith, c.if-k-bytes.false)))
