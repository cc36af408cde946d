use Rattle.std.proofs.Common.{ℕ, List, get_or, Contains, inr, refl, subst, ◌∙◌, arith}
use Rattle.std.proofs.lemmas.List.{take_all}
use Rattle.std.proofs.lemmas.List.Elements.{Contains-get_or}
use Rattle.worklists.specs.Growth.{Grows, FromOne}
use Rattle.worklists.proofs.Growing.{Grows-more}
use Rattle.reaching_defs.specs.Frames.{IsThrown}
use Rattle.reaching_defs.proofs.Carrying.{grows_thrown}
use Rattle.reaching_defs.proofs.frame.Frame.throw_all.Goals as goal

pub add-requires-clause-point : goal.add-requires-clause-point
add-requires-clause-point c =
    let h = get_or c.items-handlers.result.now c.loop-handler.handler-index 0 in
    let there : Contains c.args.point.now.handlers h = subst (λ (xs : List ℕ). Contains xs h) c.items-handlers.ensures (Contains-get_or c.items-handlers.result.now c.loop-handler.handler-index 0 c.loop-handler-test.true) in
    c.requires.frame.flow.goes c.args.point.now.pc h (c.args.point.now, (c.requires.point, refl), inr there)

pub loop-handler-preserved : goal.loop-handler-preserved
loop-handler-preserved c =
    let h = get_or c.items-handlers.result.now c.loop-handler.handler-index 0 in
    record {
      size = c.add.ensures.size ∙ c.loop-handler.invariant.size;
      set = c.in_ok-add.ensures.set;
      grown = Grows-more (IsThrown c.args.self.now c.args.slot) c.items-handlers.result.now c.loop-handler.handler-index 0 c.args.found.now.items.items c.loop-handler.found.items.items c.add.new.found.items.items c.loop-handler-test.true c.loop-handler.invariant.grown
          (grows_thrown c.args.self.now c.args.slot h c.loop-handler.found.items.items c.add.new.found.items.items (omega arith) c.in_ok-add.ensures.grown);
    }

pub returns-clause-grown : goal.returns-clause-grown
returns-clause-grown c =
    subst (λ (xs : List ℕ). Grows c.args.found.now.items.items c.loop-handler.found.items.items (FromOne (IsThrown c.args.self.now c.args.slot) xs))
    (take_all c.loop-handler.handler-index c.items-handlers.result.now c.loop-handler-test.false ∙ c.items-handlers.ensures) c.loop-handler.invariant.grown
