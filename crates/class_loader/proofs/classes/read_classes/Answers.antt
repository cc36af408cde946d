use Rattle.std.proofs.Common.{rules, arith}
use Rattle.class_loader.proofs.Files.{no_file, one_more, all_sound, first, small_files, are_named}
use Rattle.class_loader.proofs.Sizes.{are_few}
use Rattle.class_loader.proofs.classes.read_classes.Goals as goal

pub loop-place-init : goal.loop-place-init
loop-place-init c = no_file c.args.contents.now c.new-classes.result.items c.new-classes.ensures.items

pub add_class-requires-clause-small : goal.add_class-requires-clause-small
add_class-requires-clause-small c = small_files c.args.contents.now c.requires.total

pub loop-place-preserved : goal.loop-place-preserved
loop-place-preserved c =
    let a = c.in_ok-add_class.ensures.added in
    one_more c.args.contents.now c.loop-place.classes.items c.add_class.new.classes.items c.loop-place.place a.0 a.1 c.loop-place.invariant a.2 a.3 a.4

pub returns-in_err-add_class-clause-refused : goal.returns-in_err-add_class-clause-refused
returns-in_err-add_class-clause-refused c = λ line e.
    let r = c.add_class.ensures.refused line (search rules) in
    first c.args.folder.now r.0 r.1 line c.args.paths.now c.args.contents.now c.loop-place.classes.items c.loop-place.place c.loop-place.invariant r.2 r.3 r.4

pub returns-clause-sound : goal.returns-clause-sound
returns-clause-sound c = all_sound c.args.contents.now c.loop-place.classes.items c.loop-place.place (omega (arith, c.loop-place-test.false)) c.loop-place.invariant

pub returns-clause-few : goal.returns-clause-few
returns-clause-few c =
    are_few c.args.contents.now c.loop-place.classes.items c.requires.total
    (all_sound c.args.contents.now c.loop-place.classes.items c.loop-place.place (omega (arith, c.loop-place-test.false)) c.loop-place.invariant)

pub returns-clause-named : goal.returns-clause-named
returns-clause-named c =
    are_named c.args.contents.now c.loop-place.classes.items
    (all_sound c.args.contents.now c.loop-place.classes.items c.loop-place.place (omega (arith, c.loop-place-test.false)) c.loop-place.invariant)
