use Rattle.std.proofs.Common.{sym, subst}
use Rattle.std.specs.Prelude.{OnOk}
use Rattle.mod_ref.specs.Gains.{Gains}
use Rattle.input_tables.specs.Effects.{AtCall}
use Rattle.input_tables.specs.declared.outside.Way.{Way}
use Rattle.input_tables.proofs.outside.add_call.Goals as goal

pub returns-in-Writes : goal.returns-in-Writes
returns-in-Writes c = subst (λ (w : Way). OnOk c.add_written.result (Gains c.args.effects.now.items c.add_written.new.effects.items (AtCall c.args.scene.now.system.now c.args.scene.now.effects.now w c.args.call.now.number c.args.call.now.site.now c.args.call.now.rule.now c.args.call.now.place))) (sym c.in-Writes.is) c.add_written.ensures

pub returns-in-Copies : goal.returns-in-Copies
returns-in-Copies c = subst (λ (w : Way). OnOk c.add_copied.result (Gains c.args.effects.now.items c.add_copied.new.effects.items (AtCall c.args.scene.now.system.now c.args.scene.now.effects.now w c.args.call.now.number c.args.call.now.site.now c.args.call.now.rule.now c.args.call.now.place))) (sym c.in-Copies.is) c.add_copied.ensures

pub returns-in-Reads : goal.returns-in-Reads
returns-in-Reads c = subst (λ (w : Way). OnOk c.add_read.result (Gains c.args.effects.now.items c.add_read.new.effects.items (AtCall c.args.scene.now.system.now c.args.scene.now.effects.now w c.args.call.now.number c.args.call.now.site.now c.args.call.now.rule.now c.args.call.now.place))) (sym c.in-Reads.is) c.add_read.ensures
