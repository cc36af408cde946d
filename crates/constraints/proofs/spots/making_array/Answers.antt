use Rattle.std.proofs.Common.{sym, ◌∙◌}
use Rattle.std.proofs.lemmas.Bool.{false≢true}
use Rattle.class_form.specs.Opcodes.{IsNewArray}
use Rattle.constraints.proofs.Standing.{one_of_kind, none_of_kind}
use Rattle.constraints.proofs.OfSpots.{made_one}
use Rattle.constraints.proofs.spots.making_array.Goals as goal

pub returns-then-not-is_new_array : goal.returns-then-not-is_new_array
returns-then-not-is_new_array c = λ p s names set at.
    none_of_kind p set.of.read c.args.x.now at IsNewArray _ (λ is. false≢true (sym c.if-not-is_new_array.true ∙ c.is_new_array.ensures.1 is))

pub returns : goal.returns
returns c = λ p s names set at.
    one_of_kind p set.of.read c.args.x.now at IsNewArray _ c.made_spot.result (c.is_new_array.ensures.0 c.if-not-is_new_array.false)
    (made_one _ _ _ _ c.made_spot.result (c.first_site.ensures p s names set) (c.length.ensures p s names set) c.made_spot.ensures)
