use Rattle.std.proofs.Common.{◌≡◌, ◌++◌, ◌∷◌, [], ℕ, Option, OnOk, subst}
use Rattle.text_tables.proofs.methods.push_point.Goals as goal

pub returns : goal.returns
returns c = subst (λ (o : Option ℕ). OnOk c.push_line.result (c.push_line.new.lines.items ≡ c.args.lines.now.items ++ (c.args.point.now.pc, o) ∷ [])) c.at.ensures c.push_line.ensures
