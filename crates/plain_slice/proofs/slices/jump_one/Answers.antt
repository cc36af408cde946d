use Rattle.std.proofs.Common.{◌≡◌, true, eqb, eq-eqb}
use Rattle.std.proofs.lemmas.Bool.{eqb-true}
use Rattle.std.proofs.lemmas.Result.{on_ok_weaker}
use Rattle.worklists.proofs.Growing.{Grows-same}
use Rattle.plain_slice.specs.Tables.{pair}
use Rattle.plain_slice.specs.Rules.{JumpsOne}
use Rattle.plain_slice.proofs.slices.jump_one.Goals as goal

pub returns-clause-grown : goal.returns-clause-grown
returns-clause-grown c =
    on_ok_weaker c.add_if.result (Grows-same c.args.pairs.now.items c.add_if.new.pairs.items (λ p. (eqb c.args.level.place c.args.from.node ≡ true) × (p ≡ pair c.args.level.node c.args.from.place)) (JumpsOne c.args.from c.args.level)
    (λ p h. (eqb-true c.args.level.place c.args.from.node h.0, h.1)) (λ p h. (eq-eqb c.args.level.place c.args.from.node h.0, h.1))) c.add_if.ensures.grown
