use Rattle.std.proofs.Common.{rules, ◌≡◌, ◌<◌, ◌+◌, ℕ, arith, length, ap}
use Rattle.slicer_ids.specs.declared.limits.LimitKind.TheVariants.{TotalBytes}
use Rattle.folder_reader.proofs.Errors.{same_kind, same_count}
use Rattle.folder_reader.proofs.Sums.{long_alone, long_together}
use Rattle.folder_reader.proofs.reading.add_content.Goals as goal

pub returns-in_err-bytes-clause-too_long : goal.returns-in_err-bytes-clause-too_long
returns-in_err-bytes-clause-too_long g c = λ kind count e.
    let r = c.content.ensures.too_long kind count (search rules) in
    long_alone (g.H.Host.files c.args.host.now) c.args.path.now c.args.total kind count r.0 r.1 r.2

pub returns-then-after-gt-TOTAL_BYTES-clause-too_long : goal.returns-then-after-gt-TOTAL_BYTES-clause-too_long
returns-then-after-gt-TOTAL_BYTES-clause-too_long g c = λ kind count e.
    let bytes = c.in_ok-bytes.bytes in
    let after = c.args.total + c.len.result in
    let size : c.len.result ≡ length bytes.items = search rules in
    let many : 67108864 < after = omega arith in
    long_together (g.H.Host.files c.args.host.now) c.args.path.now bytes.items c.args.total after kind count (same_kind TotalBytes kind after count e) (same_count TotalBytes kind after count e)
    (ap (λ (n : ℕ). c.args.total + n) size) c.in_ok-bytes.ensures.found c.in_ok-bytes.ensures.limit many
