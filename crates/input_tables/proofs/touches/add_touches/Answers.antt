use Rattle.worklists.specs.Growth.{FromOne}
use Rattle.std.proofs.Common.{sym, subst, List}
use Rattle.std.specs.Prelude.{All, OnOk}
use Rattle.dep_form.specs.declared.rules.Touch.{Touch}
use Rattle.mod_ref.specs.Gains.{Gains}
use Rattle.mod_ref.specs.Direct.{IsWithinTouch}
use Rattle.mod_ref.proofs.Within.{touches_within}
use Rattle.input_tables.specs.Effects.{AtTouch}
use Rattle.input_tables.proofs.touches.add_touches.Goals as goal

pub add_each-requires-clause-within : goal.add_each-requires-clause-within
add_each-requires-clause-within c = subst (All (IsWithinTouch c.args.scene.now.system.now)) (sym c.items.ensures) (touches_within c.args.scene.now.system.now)

pub returns : goal.returns
returns c = subst (λ (ts : List Touch). OnOk c.add_each.result (Gains c.args.effects.now.items c.add_each.new.effects.items (FromOne (AtTouch c.args.scene.now.system.now c.args.scene.now.effects.now c.args.write) ts))) c.items.ensures c.add_each.ensures
