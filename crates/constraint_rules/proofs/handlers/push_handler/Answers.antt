use Rattle.std.proofs.Common.{sym, ◌∙◌}
use Rattle.std.proofs.lemmas.Bool.{false≢true}
use Rattle.std.proofs.lemmas.Result.{on_ok_weaker}
use Rattle.worklists.proofs.Growing.{Grows-none, Grows-same}
use Rattle.constraint_rules.specs.Handlers.{Covers, IsCaughtBy}
use Rattle.constraint_rules.specs.Settings.{place_of}
use Rattle.constraint_rules.proofs.handlers.push_handler.Goals as goal

pub returns-then-covers : goal.returns-then-covers
returns-then-covers c = λ p s names set placed.
    on_ok_weaker c.push_caught.result (λ g. Grows-same c.args.rules.now.items c.push_caught.new.rules.items (IsCaughtBy p s names (place_of c.args.x.now) c.args.handler.now)
    (λ r. Covers c.args.x.now.point.now.pc c.args.handler.now × IsCaughtBy p s names (place_of c.args.x.now) c.args.handler.now r)
    (λ r h. (c.covers.ensures.0 c.if-covers.true, h)) (λ r h. h.1) g) (c.push_caught.ensures p s names set placed)

pub returns-else-covers : goal.returns-else-covers
returns-else-covers c = λ p s names set placed.
    Grows-none c.args.rules.now.items (λ r. Covers c.args.x.now.point.now.pc c.args.handler.now × IsCaughtBy p s names (place_of c.args.x.now) c.args.handler.now r)
    (λ r h. false≢true (sym c.if-covers.false ∙ c.covers.ensures.1 h.0))
