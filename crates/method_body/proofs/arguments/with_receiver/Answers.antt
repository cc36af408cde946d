use Rattle.std.proofs.Common.{[], ◌∷◌, refl, inr, arith}
use Rattle.method_body.proofs.arguments.with_receiver.Goals as goal

pub returns-else-is_static : goal.returns-else-is_static
returns-else-is_static c = (1 ∷ [], inr (λ s. (let t = c.is_static.ensures.1 s in let f = c.if-is_static.false in cc), refl), omega arith)
