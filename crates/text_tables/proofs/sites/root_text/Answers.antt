use Rattle.text_tables.proofs.Answered.{ok_then}
use Rattle.text_tables.proofs.SiteTables.{root_array, root_string}
use Rattle.text_tables.proofs.sites.root_text.Goals as goal

pub returns-then-k-eq0 : goal.returns-then-k-eq0
returns-then-k-eq0 c = ok_then c.from_bytes.result _ _ c.from_bytes.ensures (λ x e p t typed. root_array p c.args.k t x c.if-k-eq0.true e typed)

pub returns-else-k-eq0 : goal.returns-else-k-eq0
returns-else-k-eq0 c = ok_then c.from_bytes-else-k-eq0.result _ _ c.from_bytes-else-k-eq0.ensures (λ x e p t typed. root_string p c.args.k t x c.if-k-eq0.false e typed)
