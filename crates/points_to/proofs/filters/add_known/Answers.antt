use Rattle.std.proofs.lemmas.Result.{on_ok_weaker}
use Rattle.points_to.proofs.Filtering.{site_added}
use Rattle.points_to.proofs.filters.add_known.Goals as goal

pub returns : goal.returns
returns c = on_ok_weaker c.add_if.result (λ h. site_added c.args.system.now c.args.below.now c.args.keep c.args.number c.args.info c.is_kept-kept.result c.args.row.now.items c.add_if.new.row.items c.requires.below c.requires.site c.is_kept-kept.ensures c.requires.before h) c.add_if.ensures
