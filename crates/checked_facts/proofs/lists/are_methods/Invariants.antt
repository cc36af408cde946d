use Rattle.std.proofs.Common.{◌<◌, ℕ, get_or}
use Rattle.dep_form.specs.declared.texts.MethodText.{MethodText}
use Rattle.checked_facts.specs.Parts.{IsOfClass}
use Rattle.checked_facts.proofs.lists.are_methods.Given as goal

abbrev pub invariant-loop-text : goal.invariant-loop-text
invariant-loop-text l = (k : ℕ) (d : MethodText) → k < l.text-index → IsOfClass l.n.classes (get_or l.methods k d)
