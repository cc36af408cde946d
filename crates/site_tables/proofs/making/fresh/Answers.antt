use Rattle.std.proofs.Common.{sym, subst}
use Rattle.site_tables.specs.Making.{IsLoaded, IsNewAt, IsArrayAt, IsFreshOf, FieldIn, ResultIn}
use Rattle.site_tables.proofs.MadeKinds.{nothing_made, constant_made, array_made, object_made, dimensions_made, answer_made, field_made}
use Rattle.site_tables.proofs.making.fresh.Goals as goal

pub returns-in-Constant : goal.returns-in-Constant
returns-in-Constant c = λ p t b n k read at of same.
    constant_made p read t b c.args.instr.now n k at of c.loaded.result c.in-Constant.ensures (subst (λ pool. IsLoaded pool c.args.instr.now.index c.loaded.result) (sym same) c.loaded.ensures)

pub returns-in-Field : goal.returns-in-Field
returns-in-Field c = λ p t b n k read at of same.
    field_made p read t b c.args.instr.now n k at of c.field.result c.in-Field.ensures (subst (λ pool. IsFreshOf (FieldIn pool c.args.instr.now.index) c.field.result) (sym same) c.field.ensures)

pub returns-in-Call : goal.returns-in-Call
returns-in-Call c = λ p t b n k read at of same.
    answer_made p read t b c.args.instr.now n k at of c.answer.result c.in-Call.ensures (subst (λ pool. IsFreshOf (ResultIn pool c.args.instr.now.index) c.answer.result) (sym same) c.answer.ensures)

pub returns-in-New : goal.returns-in-New
returns-in-New c = λ p t b n k read at of same.
    object_made p read t b c.args.instr.now n k at of c.new_object.result c.in-New.ensures (subst (λ pool. IsNewAt pool c.args.instr.now.index c.new_object.result) (sym same) c.new_object.ensures)

pub returns-in-Array : goal.returns-in-Array
returns-in-Array c = λ p t b n k read at of same. array_made p read t b c.args.instr.now n k at of c.one_array.result c.in-Array.ensures c.one_array.ensures.dims c.one_array.ensures.class

pub returns-in-Dimensions : goal.returns-in-Dimensions
returns-in-Dimensions c = λ p t b n k read at of same.
    dimensions_made p read t b c.args.instr.now n k at of c.arrays.result c.in-Dimensions.ensures (subst (λ pool. IsArrayAt pool c.args.instr.now.index c.args.instr.now.dims c.arrays.result) (sym same) c.arrays.ensures)

pub returns-in-Other : goal.returns-in-Other
returns-in-Other c = λ p t b n k read at of same. nothing_made p read t b c.args.instr.now n k at of c.nothing.result c.nothing.ensures c.in-Other.ensures
