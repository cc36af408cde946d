use Rattle.std.proofs.Common.{Bool, sym, subst}
use Rattle.std.specs.Prelude.{OnOk}
use Rattle.mod_ref.specs.Gains.{Gains}
use Rattle.mod_ref.specs.Direct.{AtCall}
use Rattle.mod_ref.proofs.outside.add_call.Goals as goal

pub returns-then-write : goal.returns-then-write
returns-then-write c = subst (λ (w : Bool). OnOk c.add_written.result (Gains c.args.effects.now.items.items c.add_written.new.effects.items.items (AtCall c.args.system.now w c.args.call.now))) (sym c.if-write.true) c.add_written.ensures

pub returns-else-write : goal.returns-else-write
returns-else-write c = subst (λ (w : Bool). OnOk c.add_read.result (Gains c.args.effects.now.items.items c.add_read.new.effects.items.items (AtCall c.args.system.now w c.args.call.now))) (sym c.if-write.false) c.add_read.ensures
