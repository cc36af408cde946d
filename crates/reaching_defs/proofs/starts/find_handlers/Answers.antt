use Rattle.std.proofs.Common.{◌≡◌, ℕ, List, subst, ◌∙◌}
use Rattle.std.proofs.lemmas.List.{take_all}
use Rattle.worklists.specs.Growth.{Grows, FromOne}
use Rattle.worklists.proofs.Growing.{Grows-more}
use Rattle.reaching_defs.proofs.Beginning.{those}
use Rattle.reaching_defs.proofs.starts.find_handlers.Goals as goal

pub loop-handler-preserved : goal.loop-handler-preserved
loop-handler-preserved c = record {
  size = c.add.ensures.size ∙ c.loop-handler.invariant.size;
  set = c.in_ok-add.ensures.set;
  grown = Grows-more (λ (h x : ℕ). x ≡ h) c.args.handlers.now c.loop-handler.handler-index 0 c.args.found.now.items.items c.loop-handler.found.items.items c.add.new.self.items.items c.loop-handler-test.true c.loop-handler.invariant.grown c.in_ok-add.ensures.grown;
}

pub returns-clause-grown : goal.returns-clause-grown
returns-clause-grown c =
    let all = take_all c.loop-handler.handler-index c.args.handlers.now c.loop-handler-test.false in
    those c.args.handlers.now c.args.found.now.items.items c.loop-handler.found.items.items (subst (λ (xs : List ℕ). Grows c.args.found.now.items.items c.loop-handler.found.items.items (FromOne (λ h x. x ≡ h) xs)) all c.loop-handler.invariant.grown)
