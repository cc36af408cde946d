use Rattle.std.proofs.Common.{sym, ◌∙◌}
use Rattle.text_tables.proofs.Answered.{all_ok}
use Rattle.text_tables.proofs.site_texts.unread.Goals as goal

pub returns-in-Malformed : goal.returns-in-Malformed
returns-in-Malformed c = all_ok c.no_text.result _ (λ x e. absurd (cc (sym c.in-Malformed.is ∙ e)))
