use Rattle.std.proofs.Common.{rules}
use Rattle.std.proofs.lemmas.Fn.{filter_same}
use Rattle.widening.proofs.BaseLaws.{stays, without_bases}
use Rattle.widening.proofs.edges.drop_bases.Goals as goal

pub returns : goal.returns
returns c = without_bases c.args.edges.now.items c.retain.new.self.items (filter_same _ stays _ (λ x b f' k. search rules) _ _ c.retain.ensures.filtered)
