use Rattle.std.proofs.Common.{refl, sym}
use Rattle.slicer_ids.specs.Order.{StatementBefore}
use Rattle.worklists.specs.Growth.{FromOne}
use Rattle.variable_tables.specs.Statements.{Rises}
use Rattle.variable_tables.specs.Members.{IsAmong}
use Rattle.variable_tables.proofs.InOrder.{grows_read, grows_start, grows_one, grows_same, from_whole}
use Rattle.variable_tables.proofs.Orders.{IsThere, statements_rise, among_to, among_from}
use Rattle.variable_tables.proofs.calls.push_all.Goals as goal

pub loop-pc-init : goal.loop-pc-init
loop-pc-init c = grows_start StatementBefore (λ x. ⊥) (IsThere c.args.method) c.args.calls.now.items

pub loop-pc-preserved : goal.loop-pc-preserved
loop-pc-preserved c =
    grows_read StatementBefore (λ x. ⊥) Rises (IsThere c.args.method) c.args.pcs.now c.loop-pc.pc-index _
    c.args.calls.now.items c.loop-pc.calls.items c.push.new.self.items c.requires (statements_rise c.args.method) c.loop-pc-test.true c.loop-pc.invariant
    (grows_one StatementBefore (λ x. ⊥) c.loop-pc.calls.items c.push.new.self.items _ _ c.in_ok-push.ensures.items refl (λ x. x) (λ t e. sym e))

pub returns : goal.returns
returns c =
    grows_same StatementBefore (λ x. ⊥) c.args.calls.now.items c.loop-pc.calls.items (FromOne (IsThere c.args.method) c.args.pcs.now) (IsAmong c.args.method c.args.pcs.now) (λ x. ⊥)
    (among_to c.args.method c.args.pcs.now) (among_from c.args.method c.args.pcs.now) (λ t p n. n) (λ t p n. n)
    (from_whole StatementBefore (λ x. ⊥) (IsThere c.args.method) c.args.pcs.now c.loop-pc.pc-index c.args.calls.now.items c.loop-pc.calls.items c.loop-pc-test.false c.loop-pc.invariant)
