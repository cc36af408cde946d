use Rattle.std.proofs.Common.{◌∙◌, sym, ap}
use Rattle.tabulate.specs.Frames.{width}
use Rattle.tabulate.proofs.tabulation.follow_from.Goals as goal

pub follow-requires-clause-delta : goal.follow-requires-clause-delta
follow-requires-clause-delta g c = c.requires.delta ∙ sym (ap (width c.args.f.now) c.met_method-method.ensures.id)
