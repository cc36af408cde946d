use Rattle.std.proofs.Common.{◌≡◌, ap, length, arith}
use Rattle.class_writer.proofs.Lengths.{class_length}
use Rattle.class_writer.proofs.sizes.class_size.Goals as goal

pub returns : goal.returns
returns c =
    let k = c.args.class.now in
    let interfaces : length c.items.result.now ≡ length k.interfaces = ap length c.items.ensures in
    let constants = rw c.items-2.ensures at c.constants_size.ensures in
    let fields = rw c.items-3.ensures at c.members_size.ensures in
    let methods = rw c.items-4.ensures at c.members_size-2.ensures in
    let attributes = rw c.items-5.ensures at c.attributes_size.ensures in
    omega (arith, class_length k, interfaces, constants, fields, methods, attributes, c.saturating_mul-interfaces.ensures, c.saturating_add.ensures, c.saturating_add-2.ensures, c.saturating_add-3.ensures, c.saturating_add-4.ensures, c.saturating_add-5.ensures)
