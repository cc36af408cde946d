use Rattle.std.proofs.Common.{◌<◌, ℕ, get_or}
use Rattle.class_form.specs.declared.class_file.Attribute.{Attribute}
use Rattle.call_graph.specs.Looking.{IsCodeAttribute}
use Rattle.call_graph.proofs.texts.has_code.Given as goal

abbrev pub invariant-loop-attribute : goal.invariant-loop-attribute
invariant-loop-attribute l = (k : ℕ) (d : Attribute) → k < l.attribute-index → IsCodeAttribute (get_or l.attributes k d) → ⊥
