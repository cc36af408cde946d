-- What instructions name, as code has it.
use Rattle.class_form.specs.Pools.{MemberKey}
use Rattle.constraint_rules.specs.declared.naming.Reference.{Reference}

abbrev pub key_in : Reference → MemberKey
key_in r = record { class = r.class.now; name = r.name.now; descriptor = r.descriptor.now }
