use Rattle.body_rules.proofs.Coded.{here, coded, readable}
use Rattle.class_loader.proofs.listing.body_of.Goals as goal

pub read_body-requires : goal.read_body-requires
read_body-requires c =
    let k = c.args.class.now in
    let m = c.index-items-place.result in
    readable k c.args.place m c.args.code.now c.requires.class.0 (coded k c.args.place m c.args.code.now (here k c.items.result.now c.args.place m c.items.ensures c.requires.place c.index-items-place.is) c.requires.code)

pub returns-in-Ok : goal.returns-in-Ok
returns-in-Ok c =
    let k = c.args.class.now in
    let m = c.index-items-place.result in
    (m, coded k c.args.place m c.args.code.now (here k c.items.result.now c.args.place m c.items.ensures c.requires.place c.index-items-place.is) c.requires.code, c.in-Ok.ensures.found)
