use Rattle.std.proofs.Common.{◌<◌, ℕ, get_or}
use Rattle.class_form.specs.declared.class_file.Attribute.{Attribute}
use Rattle.call_graph.specs.ByNumber.{HasByteAt}
use Rattle.call_graph.proofs.refusals.has_byte_among.Given as goal

abbrev pub invariant-loop-attribute : goal.invariant-loop-attribute
invariant-loop-attribute l = (k : ℕ) (d : Attribute) → k < l.attribute-index → HasByteAt l.pc l.op (get_or l.attributes k d) → ⊥
