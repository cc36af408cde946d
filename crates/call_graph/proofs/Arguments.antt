-- An entry method takes an array of strings.
use Rattle.std.proofs.Common.{ℕ, List, [], ◌∷◌, Option, None, inl, refl, arith}
use Rattle.std.specs.Prelude.{codes}
use Rattle.class_form.specs.Names.{IsClassName}
use Rattle.class_form.specs.Types.{IsMethodType}
use Rattle.class_form.specs.declared.types.BaseType.TheVariants.{Class}
use Rattle.class_form.specs.declared.types.FieldType.{FieldType}
use Rattle.class_form.specs.declared.types.MethodType.{MethodType}
use Rattle.class_form.proofs.ClassNames.{is_class_name-Decides}
use Rattle.dep_form.specs.declared.rules.Entry.{Entry}
use Rattle.program_form.specs.Programs.{Program, HasFormal}
use Rattle.call_graph.specs.Entries.{IsEntry}

abbrev strings : FieldType
strings = record { dims = 1; base = Class (codes "java/lang/String") }

abbrev of_main : MethodType
of_main = record { arguments = strings ∷ []; result = None }

string_is : IsClassName (codes "java/lang/String")
string_is = (is_class_name-Decides (codes "java/lang/String")).0 refl

spelled : IsMethodType (codes "([Ljava/lang/String;)V") of_main
spelled = (((string_is, omega arith), tt), omega arith, tt, refl)

pub takes_one : (p : Program) (main : Option (List ℕ)) (e : Entry) → IsEntry p.classes p.methods main e → HasFormal p e.method 0
takes_one p main e (given, d, found, (m, c, method, visible, static, has, choice)) =
    (d, m, codes "main", codes "([Ljava/lang/String;)V", of_main, (found, method), spelled, inl (static, omega arith))
