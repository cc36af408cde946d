use Rattle.std.proofs.Common.{List, sym, ◌∙◌}
use Rattle.std.proofs.lemmas.Bool.{false≢true}
use Rattle.std.proofs.lemmas.Result.{IfOk-weaker}
use Rattle.class_form.specs.Opcodes.{IsArrayStore}
use Rattle.dep_form.specs.declared.system.System.{System}
use Rattle.program_form.specs.Programs.{Program}
use Rattle.constraint_form.specs.Variables.{Meaning}
use Rattle.constraint_rules.specs.One.{IsOne, IsFound}
use Rattle.constraint_rules.specs.Settings.{IsSetting, IsPlaced, place_of}
use Rattle.constraints.specs.Touches.{FieldOf, WritingElement}
use Rattle.constraints.proofs.Standing.{one_of_kind, none_of_kind}
use Rattle.constraints.proofs.OfSpots.{field_one}
use Rattle.constraints.proofs.spots.writing_element.Goals as goal

pub returns-then-not-is_array_store : goal.returns-then-not-is_array_store
returns-then-not-is_array_store c = λ p s names set at.
    none_of_kind p set.of.read c.args.x.now at IsArrayStore _ (λ is. false≢true (sym c.if-not-is_array_store.true ∙ c.is_array_store.ensures.1 is))

pub returns : goal.returns
returns c =
    IfOk-weaker c.field_spot.result (λ o. IsOne (FieldOf (IsFound c.object.result) (IsFound c.elements.result)) o)
    (λ o. (p : Program) (s : System) (names : List Meaning) → IsSetting c.args.t.now p s names → IsPlaced p c.args.x.now → IsOne (WritingElement p s names (place_of c.args.x.now)) o)
    (λ o one. λ p s names set at.
    one_of_kind p set.of.read c.args.x.now at IsArrayStore _ o (c.is_array_store.ensures.0 c.if-not-is_array_store.false) (field_one _ _ _ _ o (c.object.ensures p s names set at) (c.elements.ensures p s names set) one))
    c.field_spot.ensures
