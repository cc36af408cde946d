use Rattle.std.proofs.Common.{◌++◌, ◌∷◌, []}
use Rattle.std.proofs.Common.{◌∙◌, ap, None}
use Rattle.points_to.proofs.Listed.{no_receiver, alone_receiver}
use Rattle.points_to.proofs.reading.first_receiver.Goals as goal

pub returns-in_ok-push : goal.returns-in_ok-push
returns-in_ok-push c = alone_receiver c.args.alone c.push.new.self.items c.if-alone.true (c.in_ok-push.ensures.items ∙ ap (λ xs. xs ++ None ∷ []) c.new-all.ensures.items)

pub returns-else-alone : goal.returns-else-alone
returns-else-alone c = no_receiver c.args.alone c.new-all.result.items c.if-alone.false c.new-all.ensures.items
