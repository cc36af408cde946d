use Rattle.std.proofs.Common.{◌∙◌, sym, append-nil, []}
use Rattle.class_form.specs.Types.{spell_type}
use Rattle.jvm_names.proofs.Made.{whole}
use Rattle.jvm_names.proofs.types.whole_type.Goals as goal

pub type_in_front-requires : goal.type_in_front-requires
type_in_front-requires c = (c.requires.0, [], c.requires.1.0, c.requires.1.1 ∙ sym (append-nil (spell_type c.requires.0)))

pub returns : goal.returns
returns c = whole c.args.bytes.now c.in_ok-found._rest.now c.requires.0 c.in_ok-found.found c.requires.1 c.in_ok-found.ensures.0 c.in_ok-found.ensures.1
