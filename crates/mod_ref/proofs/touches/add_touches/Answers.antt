use Rattle.worklists.specs.Growth.{FromOne}
use Rattle.std.proofs.Common.{sym, subst, List}
use Rattle.std.specs.Prelude.{All, OnOk}
use Rattle.dep_form.specs.declared.rules.Touch.{Touch}
use Rattle.mod_ref.specs.Gains.{Gains}
use Rattle.mod_ref.specs.Direct.{AtTouch, AtTouches, IsWithinTouch}
use Rattle.mod_ref.proofs.Within.{touches_within}
use Rattle.mod_ref.proofs.Touched.{told, touches_is}
use Rattle.mod_ref.proofs.touches.add_touches.Goals as goal

pub add_each-requires-clause-within : goal.add_each-requires-clause-within
add_each-requires-clause-within c = subst (All (IsWithinTouch c.args.system.now)) (sym c.items.ensures) (touches_within c.args.system.now)

pub returns : goal.returns
returns c =
    let s = c.args.system.now in
    let new = c.add_each.new.effects.items.items in
    told c.add_each.result c.args.effects.now.items.items new (FromOne (AtTouch s c.args.write) s.touches) (AtTouches s c.args.write) (touches_is s c.args.write)
    (subst (λ (ts : List Touch). OnOk c.add_each.result (Gains c.args.effects.now.items.items new (FromOne (AtTouch s c.args.write) ts))) c.items.ensures c.add_each.ensures)
