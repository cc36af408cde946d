use Rattle.class_loader.proofs.tests.count_bodies.Goals as goal

pub bodies-requires : goal.bodies-requires
bodies-requires c =
    c.sound_files_have_sound_classes.ensures.hierarchy c.args.contents.now c.args.classes.items c.in-Ok.hierarchy c.requires.sound c.in-Ok.ensures.ok
