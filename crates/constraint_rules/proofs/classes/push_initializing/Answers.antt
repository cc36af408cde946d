use Rattle.std.proofs.lemmas.Result.{on_ok_weaker}
use Rattle.constraint_rules.specs.Settings.{place_of}
use Rattle.constraint_rules.proofs.OfKind.{grown_by_kind}
use Rattle.constraint_rules.proofs.Initials.{need_entered}
use Rattle.constraint_rules.proofs.classes.push_initializing.Goals as goal

pub returns : goal.returns
returns c = λ p s names set placed.
    on_ok_weaker c.push_initializers.result (λ g. grown_by_kind c.args.t.now c.args.x.now p s names set placed (λ op. Unit {0}) _ c.args.rules.now.items c.push_initializers.new.rules.items tt
    (need_entered p (place_of c.args.x.now) c.needed.result c.args.rules.now.items c.push_initializers.new.rules.items (c.needed.ensures p s names set placed) g)) (c.push_initializers.ensures p s names set)
