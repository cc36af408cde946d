use Rattle.std.proofs.Common.{sym, ◌∙◌}
use Rattle.std.proofs.lemmas.Bool.{false≢true}
use Rattle.class_form.specs.Opcodes.{IsPutStatic}
use Rattle.constraints.proofs.Standing.{one_of_kind, none_of_kind}
use Rattle.constraints.proofs.OfSpots.{static_one}
use Rattle.constraints.proofs.spots.writing_static.Goals as goal

pub returns-then-not-is_put_static : goal.returns-then-not-is_put_static
returns-then-not-is_put_static c = λ p s names set at.
    none_of_kind p set.of.read c.args.x.now at IsPutStatic _ (λ is. false≢true (sym c.if-not-is_put_static.true ∙ c.is_put_static.ensures.1 is))

pub returns : goal.returns
returns c = λ p s names set at.
    one_of_kind p set.of.read c.args.x.now at IsPutStatic _ c.static_spot.result (c.is_put_static.ensures.0 c.if-not-is_put_static.false)
    (static_one _ _ c.static_spot.result (c.static_number.ensures p s names set at) c.static_spot.ensures)
