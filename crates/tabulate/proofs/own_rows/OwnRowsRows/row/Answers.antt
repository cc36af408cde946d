use Rattle.std.proofs.Common.{refl}
use Rattle.tabulate.proofs.OwnRowLaws.{match_map}
use Rattle.tabulate.proofs.own_rows.OwnRowsRows.row.Goals as goal

pub returns : goal.returns
returns c = (
  (refl, (λ _. tt), (c.requires.sound, (refl, λ t k. k), match_map _ _ _ _ c.find_row.result (λ none has. none has.0 has.1) (λ r k. ((r.now, k), c.requires.sound c.args.e c.args.mode r.now k)) c.find_row.ensures)),
  record { after = tt },
)
