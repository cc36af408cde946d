use Rattle.std.proofs.Common.{List, sym, ◌∙◌}
use Rattle.std.proofs.lemmas.Bool.{false≢true}
use Rattle.std.proofs.lemmas.Result.{IfOk-weaker}
use Rattle.class_form.specs.Opcodes.{IsGetField}
use Rattle.dep_form.specs.declared.system.System.{System}
use Rattle.program_form.specs.Programs.{Program}
use Rattle.constraint_form.specs.Variables.{Meaning}
use Rattle.constraint_rules.specs.One.{IsOne, IsFound}
use Rattle.constraint_rules.specs.Settings.{IsSetting, IsPlaced, place_of}
use Rattle.constraints.specs.Touches.{FieldOf, ReadingField}
use Rattle.constraints.proofs.Standing.{one_of_kind, none_of_kind}
use Rattle.constraints.proofs.OfSpots.{field_one}
use Rattle.constraints.proofs.spots.reading_field.Goals as goal

pub returns-then-not-is_get_field : goal.returns-then-not-is_get_field
returns-then-not-is_get_field c = λ p s names set at.
    none_of_kind p set.of.read c.args.x.now at IsGetField _ (λ is. false≢true (sym c.if-not-is_get_field.true ∙ c.is_get_field.ensures.1 is))

pub returns : goal.returns
returns c =
    IfOk-weaker c.field_spot.result (λ o. IsOne (FieldOf (IsFound c.object.result) (IsFound c.field_of.result)) o)
    (λ o. (p : Program) (s : System) (names : List Meaning) → IsSetting c.args.t.now p s names → IsPlaced p c.args.x.now → IsOne (ReadingField p s names (place_of c.args.x.now)) o)
    (λ o one. λ p s names set at.
    one_of_kind p set.of.read c.args.x.now at IsGetField _ o (c.is_get_field.ensures.0 c.if-not-is_get_field.false) (field_one _ _ _ _ o (c.object.ensures p s names set at) (c.field_of.ensures p s names set at) one))
    c.field_spot.ensures
