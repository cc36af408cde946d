use Rattle.std.proofs.Common.{◌≡◌, ap, length, arith}
use Rattle.class_writer.proofs.Lengths.{code_length}
use Rattle.class_writer.proofs.sizes.code_size.Goals as goal

pub returns : goal.returns
returns c =
    let b = c.args.body.now in
    let handlers : length c.items.result.now ≡ length b.handlers = ap length c.items.ensures in
    let code : length c.bytes.result.now ≡ length b.code = ap length c.bytes.ensures in
    let attributes = rw c.items-2.ensures at c.code_attributes_size-attributes.ensures in
    omega (arith, code_length b, handlers, code, attributes, c.saturating_mul-handlers.ensures, c.saturating_add.ensures, c.saturating_add-2.ensures, c.saturating_add-3.ensures)
