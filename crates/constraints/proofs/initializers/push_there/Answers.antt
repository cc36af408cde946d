use Rattle.std.proofs.Common.{refl, sym, ◌∙◌}
use Rattle.std.proofs.lemmas.Bool.{false≢true}
use Rattle.variable_tables.proofs.InOrder.{grows_none, grows_one}
use Rattle.constraints.specs.Initializers.{IsNumberedAt, ClassRises}
use Rattle.constraints.proofs.initializers.push_there.Goals as goal

pub returns-then-not-is_there : goal.returns-then-not-is_there
returns-then-not-is_there c =
    grows_none ClassRises (λ e. ⊥) c.args.found.now.items (IsNumberedAt c.args.h.now c.args.place c.args.number)
    (λ e h. absurd (false≢true (sym c.if-not-is_there.true ∙ c.is_there.ensures.1 h.0)))

pub returns : goal.returns
returns c =
    grows_one ClassRises (λ e. ⊥) c.args.found.now.items c.push.new.self.items (c.args.place.0, record { 0 = c.args.number }) (IsNumberedAt c.args.h.now c.args.place c.args.number)
    c.in_ok-push.ensures.items (c.is_there.ensures.0 c.if-not-is_there.false, refl) (λ n. n) (λ e h. sym h.1)
