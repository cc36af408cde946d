use Rattle.std.proofs.Common.{◌+◌, ℕ, length, drop, sym, ap, ◌∙◌, arith}
use Rattle.edge_io.specs.Files.{inside}
use Rattle.class_loader.proofs.Files.{below_is, below_room}
use Rattle.class_loader.proofs.classes.path_below.Goals as goal

pub behind-requires : goal.behind-requires
behind-requires c = omega (arith, below_room c.args.folder.now c.requires.0 c.args.path.now c.requires.1, ap (length {A = ℕ}) c.as_bytes.ensures.value)

pub returns : goal.returns
returns c =
    let e = c.requires.1 in
    let below = c.behind.ensures ∙ ap (drop (length c.args.folder.now + 1)) c.as_bytes.ensures.value ∙ below_is c.args.folder.now c.requires.0 c.args.path.now e in
    e ∙ ap (inside c.args.folder.now) (sym below)
