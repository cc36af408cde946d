-- The keys by which the lists of facts are in order.
use Rattle.std.specs.Prelude.{ℕ, List}
use Rattle.slicer_ids.specs.declared.ids.ClassId.{ClassId}
use Rattle.slicer_ids.specs.declared.ids.SiteId.{SiteId}
use Rattle.slicer_ids.specs.declared.ids.Statement.{Statement}
use Rattle.dep_form.specs.declared.access.Access.{Access}
use Rattle.dep_form.specs.declared.texts.MethodText.{MethodText}
use Rattle.dep_form.specs.Orders.{MethodKey}

abbrev pub key_of_text : MethodText → MethodKey
key_of_text t = record { class = t.class; name = t.name; descriptor = t.descriptor }

abbrev pub key_of_line : ClassId × ℕ × List Statement → ClassId × ℕ
key_of_line x = (x.0, x.1)

abbrev pub key_of_access : Statement × Access → Statement
key_of_access x = x.0

abbrev pub key_of_value : Statement × List SiteId → Statement
key_of_value x = x.0
