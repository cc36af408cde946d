use Rattle.script.proofs.Naming.{names_none, refuted}
use Rattle.script.proofs.keyword.keyword_of.Goals as goal

pub returns : goal.returns
returns c =
    names_none c.args.word.now (refuted _ c.if-is_text.false c.is_text.ensures) (refuted _ c.if-is_text-2.false c.is_text-2.ensures) (refuted _ c.if-is_text-3.false c.is_text-3.ensures) (refuted _ c.if-is_text-4.false c.is_text-4.ensures) (refuted _ c.if-is_text-5.false c.is_text-5.ensures) (refuted _ c.if-is_text-6.false c.is_text-6.ensures) (refuted _ c.if-is_text-7.false c.is_text-7.ensures) (refuted _ c.if-is_text-8.false c.is_text-8.ensures) (refuted _ c.if-is_text-9.false c.is_text-9.ensures)
