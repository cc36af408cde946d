use Rattle.std.proofs.Common.{◌∙◌, Option, IfSome, subst}
use Rattle.edge_io.specs.Files.{Files, HasFile}
use Rattle.class_copy.proofs.Told.{copied}
use Rattle.class_copy.proofs.copy.copy.Goals as goal

pub returns : goal.returns
returns g c =
    let new = g.H.Host.files c.put.new.host in
    let written = c.deref-2.result.now in
    copied (g.H.Host.files c.args.host.now) new c.args.from.now c.args.to.now c.in_ok-bytes.bytes.items written
    c.in_ok-bytes.ensures.tells (c.deref-2.ensures.value ∙ c.in_ok-written.ensures ∙ c.deref.ensures.value)
    (subst (λ (o : Option Files). IfSome o (λ _. IfSome new (λ (n : Files). HasFile n c.args.to.now written))) c.in_ok-bytes.ensures.files c.in_ok-put.ensures)
