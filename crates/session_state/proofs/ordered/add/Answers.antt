use Rattle.session_state.proofs.Inserting.{inserted_at, found_at}
use Rattle.session_state.proofs.StatementOrder.{rise}
use Rattle.session_state.proofs.ordered.add.Goals as goal

pub returns-in-Ok-clause-gained : goal.returns-in-Ok-clause-gained
returns-in-Ok-clause-gained c = found_at c.args.list.now.items c.deref.result.now c.in-Ok.field-0 c.args.s c.deref.ensures.value c.requires c.in-Ok.ensures.bound c.in-Ok.ensures.ok

pub returns-in-Ok-insert-clause-gained : goal.returns-in-Ok-insert-clause-gained
returns-in-Ok-insert-clause-gained c =
    inserted_at c.args.list.now.items c.deref.result.now c.in-Err.at c.args.s c.deref.ensures.value c.requires c.insert.new.self.items c.in-Err.ensures.bound c.in-Err.ensures.position c.in-Ok-insert.ensures.items

pub returns-in-Ok-insert-clause-rises : goal.returns-in-Ok-insert-clause-rises
returns-in-Ok-insert-clause-rises c =
    rise _ (inserted_at c.args.list.now.items c.deref.result.now c.in-Err.at c.args.s c.deref.ensures.value c.requires c.insert.new.self.items c.in-Err.ensures.bound c.in-Err.ensures.position c.in-Ok-insert.ensures.items).order
