use Rattle.std.proofs.Common.{◌∙◌, refl, sym}
use Rattle.std.proofs.lemmas.Bool.{false≢true}
use Rattle.worklists.proofs.Growing.{Grows-none}
use Rattle.widening.specs.Marks.{PassesTo}
use Rattle.widening.proofs.MarkLaws.{grows_one}
use Rattle.widening.proofs.passing.pass_one.Goals as goal

pub returns-in_ok-push : goal.returns-in_ok-push
returns-in_ok-push c = grows_one c.args.into.now.items c.push.new.self.items c.args.argument.from (PassesTo c.args.f.now c.args.found.now.items c.args.number c.args.argument) c.in_ok-push.ensures.items (c.is_got.ensures.0 c.if-is_got.true, refl) (λ q h. h.1)

pub returns-else-is_got : goal.returns-else-is_got
returns-else-is_got c = Grows-none c.args.into.now.items (PassesTo c.args.f.now c.args.found.now.items c.args.number c.args.argument) (λ q h. false≢true (sym c.if-is_got.false ∙ c.is_got.ensures.1 h.0))
