use Rattle.std.proofs.Common.{ℕ, List, Contains, inl, refl, subst}
use Rattle.worklists.specs.Growth.{Grows, FromOne}
use Rattle.reaching_defs.specs.Frames.{IsMoved}
use Rattle.reaching_defs.proofs.Carrying.{grows_on, moved_in}
use Rattle.reaching_defs.proofs.frame.Frame.go_on.Goals as goal

pub keep-requires-clause-target : goal.keep-requires-clause-target
keep-requires-clause-target c = c.requires.frame.flow.goes c.args.point.now.pc c.args.pc (c.args.point.now, (c.requires.point, refl), inl c.requires.next)

pub follow_all-requires-clause-target : goal.follow_all-requires-clause-target
follow_all-requires-clause-target c = c.requires.frame.flow.goes c.args.point.now.pc c.args.pc (c.args.point.now, (c.requires.point, refl), inl c.requires.next)

pub follow_all-requires-clause-slot : goal.follow_all-requires-clause-slot
follow_all-requires-clause-slot c = λ to moves. moved_in c.args.self.now c.args.point.now c.args.pc c.args.slot to c.requires.frame c.requires.point c.requires.next (subst (λ (xs : List (ℕ × ℕ)). Contains xs (c.args.slot, to)) c.items.ensures moves) c.requires.slot

pub returns-clause-grown : goal.returns-clause-grown
returns-clause-grown c = grows_on c.args.self.now c.args.point.now c.args.slot c.args.pc c.args.found.now.items.items c.keep.new.found.items.items c.follow_all.new.found.items.items c.in_ok-keep.ensures.grown
    (subst (λ (xs : List (ℕ × ℕ)). Grows c.keep.new.found.items.items c.follow_all.new.found.items.items (FromOne (IsMoved c.args.self.now c.args.slot c.args.pc) xs)) c.items.ensures c.in_ok-follow_all.ensures.grown)
