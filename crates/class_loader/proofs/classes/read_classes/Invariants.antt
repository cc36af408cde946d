use Rattle.std.proofs.Common.{take}
use Rattle.acceptance.specs.Classes.{AreSound}
use Rattle.class_loader.proofs.classes.read_classes.Given as goal

abbrev pub invariant-loop-place : goal.invariant-loop-place
invariant-loop-place l = AreSound (take l.place l.contents) l.classes.items
