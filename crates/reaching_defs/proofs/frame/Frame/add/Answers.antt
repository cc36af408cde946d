use Rattle.std.proofs.Common.{arith}
use Rattle.reaching_defs.proofs.Places.{found, number-lt, grows_number}
use Rattle.reaching_defs.proofs.frame.Frame.add.Goals as goal

pub bounds-self-pc : goal.bounds-self-pc
bounds-self-pc c = (found c.args.self.now c.requires.frame.index c.args.pc c.args.slot c.requires.point.0 c.requires.point.1 c.requires.slot).0

pub overflow_mul-number : goal.overflow_mul-number
overflow_mul-number c = let lt = number-lt c.args.self.now c.requires.frame.index c.args.pc c.args.slot c.requires.point.0 c.requires.point.1 c.requires.slot in omega (arith, lt)

pub overflow_add-number : goal.overflow_add-number
overflow_add-number c = let lt = number-lt c.args.self.now c.requires.frame.index c.args.pc c.args.slot c.requires.point.0 c.requires.point.1 c.requires.slot in omega (arith, lt)

pub add-requires-clause-within : goal.add-requires-clause-within
add-requires-clause-within c = let lt = number-lt c.args.self.now c.requires.frame.index c.args.pc c.args.slot c.requires.point.0 c.requires.point.1 c.requires.slot in omega (arith, lt)

pub returns-clause-grown : goal.returns-clause-grown
returns-clause-grown c = grows_number c.args.self.now c.requires.frame.index c.args.pc c.args.slot c.requires.point.0 c.requires.point.1 c.requires.slot c.args.found.now.items.items c.add.new.self.items.items c.in_ok-add.ensures.grown
