use Rattle.std.proofs.Common.{◌≡◌, ◌≤◌, List, true, false, length, subst}
use Rattle.std.specs.List.Sorted.{IsPartitionedBy, IsPartitionPoint}
use Rattle.std.proofs.lemmas.List.{take_rest}
use Rattle.dep_form.specs.declared.rules.SiteInfo.{SiteInfo}
use Rattle.site_tables.specs.Tables.{is_at}
use Rattle.site_tables.proofs.Numbering.{parted, parted_rest, numbers_are}
use Rattle.site_tables.proofs.numbers.numbers_of.Goals as goal

pub returns : goal.returns
returns c = λ p are.
    let sites = c.args.sites.now in
    let t = c.args.place in
    let f = c.count_before-first.result in
    let n = c.count_at-count.result in
    let rest = take_rest sites f in
    let first = c.count_before-first.ensures.point (parted p sites are t) in
    let within = subst (λ (xs : List SiteInfo). n ≤ length xs) rest c.count_at-count.ensures.within in
    let point = subst (λ (xs : List SiteInfo). IsPartitionedBy (is_at t) xs → IsPartitionPoint (λ (x : SiteInfo). is_at t x ≡ true) (λ (x : SiteInfo). is_at t x ≡ false) xs n) rest c.count_at-count.ensures.point in
    numbers_are p sites are t f first n within (point (parted_rest p sites are t f first))
