use Rattle.std.proofs.Common.{◌<◌, length, subst}
use Rattle.std.specs.Prelude.{All}
use Rattle.slicer_ids.specs.declared.ids.SiteId.{SiteId}
use Rattle.dep_form.specs.LookUps.{IsStatement}
use Rattle.reply_tests.proofs.tests.fits.Goals as goal

pub returns : goal.returns
returns c = λ right. (
  subst (All (λ (s : SiteId). s.0 < length c.args.f.now.sites)) c.items.ensures (c.are_sites.ensures c.if-not-are_sites.false),
  subst (All (IsStatement c.args.f.now)) c.items-2.ensures (c.are_statements.ensures c.if-not-are_statements.false),
  subst (All (IsStatement c.args.f.now)) c.items-3.ensures (c.are_statements-2.ensures right),
)
