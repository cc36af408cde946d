use Rattle.std.proofs.Common.{rules}
use Rattle.body_rules.proofs.Coded.{here, coded, readable, has_body}
use Rattle.class_loader.proofs.code.try_method.Goals as goal

pub read_code-requires : goal.read_code-requires
read_code-requires c =
    let k = c.args.class.now in
    let m = c.index-items-place.result in
    readable k c.args.place m c.args.code.now c.requires.class (coded k c.args.place m c.args.code.now (here k c.items.result.now c.args.place m c.items.ensures c.requires.place c.index-items-place.is) c.requires.code)

pub returns-in_err-read_code-clause-refused : goal.returns-in_err-read_code-clause-refused
returns-in_err-read_code-clause-refused c = λ line e.
    let k = c.args.class.now in
    let m = c.index-items-place.result in
    let there = coded k c.args.place m c.args.code.now (here k c.items.result.now c.args.place m c.items.ensures c.requires.place c.index-items-place.is) c.requires.code in
    let r = c.read_code.ensures.refused line (search rules) in
    record { method = m; code = c.args.code.now; name = r.0; descriptor = r.1; fault = r.2; there = there; named = r.3; typed = r.4; faulty = r.5; said = r.6 }

pub returns-clause-bodies : goal.returns-clause-bodies
returns-clause-bodies c =
    let k = c.args.class.now in
    let m = c.index-items-place.result in
    let there = coded k c.args.place m c.args.code.now (here k c.items.result.now c.args.place m c.items.ensures c.requires.place c.index-items-place.is) c.requires.code in
    has_body k c.args.place m c.args.code.now _ c.requires.class there c.in_ok-read_code.ensures.found
