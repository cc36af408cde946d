use Rattle.class_loader.proofs.listing.add_code.Goals as goal

pub returns : goal.returns
returns c =
    let s = c.in_ok-body.ensures in
    (s.0, c.in_ok-body.body, s.1, s.2, c.in_ok-push.ensures.items)
