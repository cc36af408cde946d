use Rattle.text_tables.proofs.Answered.{ok_then}
use Rattle.text_tables.proofs.SiteTables.{at_statement, at_root}
use Rattle.text_tables.proofs.sites.text_at.Goals as goal

pub returns-in-Some : goal.returns-in-Some
returns-in-Some c = ok_then c.statement_text.result _ _ c.statement_text.ensures (λ x h p site t is stands typed. h p t is (at_statement p site c.args.place c.in-Some.statement c.args.k t c.in-Some.is stands typed))

pub returns-in-None : goal.returns-in-None
returns-in-None c = ok_then c.root_text.result _ _ c.root_text.ensures (λ x h p site t is stands typed. h p t (at_root p site c.args.place c.args.k t c.in-None.is stands typed))
