use Rattle.class_loader.proofs.classes.add_class.Goals as goal

pub returns-in-Ok-clause-added : goal.returns-in-Ok-clause-added
returns-in-Ok-clause-added c =
    let s = c.in_ok-class.ensures.sound in
    (s.0, c.in_ok-class.class, s.1, s.2, c.in-Ok.ensures)
