use Rattle.std.proofs.Common.{rules, ◌≡◌, ltb, true, false, Some, ap, ◌∙◌}
use Rattle.std.specs.List.Sorted.{IsPartitionPoint}
use Rattle.std.proofs.lemmas.List.Sorted.{IsPartitionPoint-from_clause, IsPartitionedBy-ltb}
use Rattle.slicer_ids.specs.declared.ids.MethodId.{MethodId}
use Rattle.class_form.specs.declared.body.Body.{Body}
use Rattle.class_form.proofs.Indices.{there_at}
use Rattle.text_tables.proofs.Keyed.{rising, found}
use Rattle.text_tables.proofs.Options.{some_is, none_is, one_found}
use Rattle.text_tables.proofs.Placed.{body_is}
use Rattle.text_tables.proofs.finding.body_of.Goals as goal

pub returns-in-Some-clause-found : goal.returns-in-Some-clause-found
returns-in-Some-clause-found c =
    let at = some_is _ c.body_at.result c.in-Some.body _ c.in-Some.is c.body_at.ensures in
    body_is _ c.args.bodies.now c.args.m c.in-Some.body.now c.body_of_method.result (there_at c.args.bodies.now c.partition_point-k.result c.in-Some.body.now at) c.body_of_method.ensures.found

pub returns-in-Some-clause-whole : goal.returns-in-Some-clause-whole
returns-in-Some-clause-whole c = λ b order among e.
    let bodies = c.args.bodies.now in
    let k = c.partition_point-k.result in
    let parted : IsPartitionPoint (λ (x : Body). ltb x.method.0 c.args.m.0 ≡ true) (λ (x : Body). ltb x.method.0 c.args.m.0 ≡ false) bodies k =
    IsPartitionPoint-from_clause (λ (x : Body). ltb x.method.0 c.args.m.0) bodies k c.partition_point-k.ensures.partitioned (IsPartitionedBy-ltb (λ (x : Body). x.method.0) bodies c.args.m.0 (rising (λ (x : Body). x.method.0) bodies order)) (λ a r f' h. search rules) in
    let there = found (λ (x : Body). x.method.0) bodies order c.args.m.0 k parted b among (ap (λ (n : MethodId). n.0) e) in
    let same = one_found _ c.body_at.result c.in-Some.body _ b c.in-Some.is c.body_at.ensures there in
    c.body_of_method.ensures.whole (ap (λ (x : Body). x.method) same ∙ e) ∙ ap (λ (x : Body). Some x) same

pub returns-in-None-clause-whole : goal.returns-in-None-clause-whole
returns-in-None-clause-whole c = λ b order among e.
    let bodies = c.args.bodies.now in
    let k = c.partition_point-k.result in
    let parted : IsPartitionPoint (λ (x : Body). ltb x.method.0 c.args.m.0 ≡ true) (λ (x : Body). ltb x.method.0 c.args.m.0 ≡ false) bodies k =
    IsPartitionPoint-from_clause (λ (x : Body). ltb x.method.0 c.args.m.0) bodies k c.partition_point-k.ensures.partitioned (IsPartitionedBy-ltb (λ (x : Body). x.method.0) bodies c.args.m.0 (rising (λ (x : Body). x.method.0) bodies order)) (λ a r f' h. search rules) in
    none_is _ c.body_at.result _ b c.in-None.is c.body_at.ensures (found (λ (x : Body). x.method.0) bodies order c.args.m.0 k parted b among (ap (λ (n : MethodId). n.0) e))
