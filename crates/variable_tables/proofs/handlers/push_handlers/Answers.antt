use Rattle.std.proofs.Common.{List, subst, arith}
use Rattle.std.proofs.lemmas.List.{take_all}
use Rattle.class_form.specs.declared.class_file.Handler.{Handler}
use Rattle.worklists.specs.Growth.{Grows, FromOne}
use Rattle.worklists.proofs.Growing.{Grows-none, Grows-more}
use Rattle.variable_tables.specs.Statements.{IsPcOfHandler}
use Rattle.variable_tables.proofs.Gathering.{one_more}
use Rattle.variable_tables.proofs.handlers.push_handlers.Goals as goal

pub loop-handler-init : goal.loop-handler-init
loop-handler-init c = Grows-none c.args.pcs.now.items _ (λ k f. absurd (omega (arith, f.1.1)))

pub loop-handler-preserved : goal.loop-handler-preserved
loop-handler-preserved c =
    Grows-more IsPcOfHandler c.args.handlers.now c.loop-handler.handler-index _ c.args.pcs.now.items c.loop-handler.pcs.items c.push.new.self.items
    c.loop-handler-test.true c.loop-handler.invariant (one_more c.loop-handler.pcs.items c.push.new.self.items _ c.in_ok-push.ensures.items)

pub returns : goal.returns
returns c =
    subst (λ (hs : List Handler). Grows c.args.pcs.now.items c.loop-handler.pcs.items (FromOne IsPcOfHandler hs)) (take_all c.loop-handler.handler-index c.args.handlers.now c.loop-handler-test.false)
    c.loop-handler.invariant
