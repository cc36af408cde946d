use Rattle.std.proofs.Common.{◌≡◌, take, All}
use Rattle.class_form.specs.declared.class_file.CodeBody.{CodeBody}
use Rattle.class_form.specs.declared.class_file.Content.TheVariants.{Code}
use Rattle.class_loader.proofs.code.code_of.Given as goal

abbrev pub invariant-loop-attribute : goal.invariant-loop-attribute
invariant-loop-attribute l = All (λ a. (code : CodeBody) → a.content ≡ Code code → ⊥) (take l.attribute-index l.attribute-items)
