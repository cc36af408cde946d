use Rattle.std.proofs.Common.{sym, subst, ◌∙◌}
use Rattle.text_tables.specs.SiteTexts.{IsText}
use Rattle.text_tables.specs.declared.kinds.Maker.{Maker}
use Rattle.text_tables.proofs.Answered.{ok_then, all_ok}
use Rattle.text_tables.proofs.site_texts.made_text.Goals as goal

pub returns-in-Constant : goal.returns-in-Constant
returns-in-Constant c = ok_then c.loaded_text.result _ _ c.loaded_text.ensures (λ x h y is. h y (subst (λ (z : Maker). IsText z c.args.pool.now c.args.code.now c.args.instr.now c.args.k y) (sym c.maker_of.ensures ∙ c.in-Constant.is) is))

pub returns-in-Field : goal.returns-in-Field
returns-in-Field c = ok_then c.field_text.result _ _ c.field_text.ensures (λ x h y is. h y (subst (λ (z : Maker). IsText z c.args.pool.now c.args.code.now c.args.instr.now c.args.k y) (sym c.maker_of.ensures ∙ c.in-Field.is) is))

pub returns-in-Call : goal.returns-in-Call
returns-in-Call c = ok_then c.answer_text.result _ _ c.answer_text.ensures (λ x h y is. h y (subst (λ (z : Maker). IsText z c.args.pool.now c.args.code.now c.args.instr.now c.args.k y) (sym c.maker_of.ensures ∙ c.in-Call.is) is))

pub returns-in-New : goal.returns-in-New
returns-in-New c = ok_then c.object_text.result _ _ c.object_text.ensures (λ x h y is. h y (subst (λ (z : Maker). IsText z c.args.pool.now c.args.code.now c.args.instr.now c.args.k y) (sym c.maker_of.ensures ∙ c.in-New.is) is))

pub returns-in-Elements : goal.returns-in-Elements
returns-in-Elements c = ok_then c.elements_text.result _ _ c.elements_text.ensures (λ x h y is. h y (subst (λ (z : Maker). IsText z c.args.pool.now c.args.code.now c.args.instr.now c.args.k y) (sym c.maker_of.ensures ∙ c.in-Elements.is) is))

pub returns-in-Array : goal.returns-in-Array
returns-in-Array c = ok_then c.array_text.result _ _ c.array_text.ensures (λ x h y is. h y (subst (λ (z : Maker). IsText z c.args.pool.now c.args.code.now c.args.instr.now c.args.k y) (sym c.maker_of.ensures ∙ c.in-Array.is) is))

pub returns-in-Dimensions : goal.returns-in-Dimensions
returns-in-Dimensions c = ok_then c.dimension_text.result _ _ c.dimension_text.ensures (λ x h y is. h y (subst (λ (z : Maker). IsText z c.args.pool.now c.args.code.now c.args.instr.now c.args.k y) (sym c.maker_of.ensures ∙ c.in-Dimensions.is) is))

pub returns-in-Other : goal.returns-in-Other
returns-in-Other c = all_ok c.no_text.result _ (λ x y is. absurd (subst (λ (z : Maker). IsText z c.args.pool.now c.args.code.now c.args.instr.now c.args.k y) (sym c.maker_of.ensures ∙ c.in-Other.is) is))
