use Rattle.std.proofs.Common.{◌≡◌, List, Some, None, subst}
use Rattle.std.specs.Prelude.{slice_get}
use Rattle.class_form.specs.Pools.{utf_at}
use Rattle.class_form.specs.Resolution.{clinit_name}
use Rattle.class_form.specs.declared.class_file.Member.{Member}
use Rattle.constraints.proofs.OfInitializers.{decided_item, decided_missing}
use Rattle.constraints.proofs.initializers.is_initializer.Goals as goal

pub returns-in-Some : goal.returns-in-Some
returns-in-Some c =
    decided_item (λ (x : Member). utf_at c.args.file.now.pool x.name ≡ Some clinit_name) (slice_get c.args.file.now.methods c.args.index) c.in-Some.member.now c.is_named_so.result
    (subst (λ (ms : List Member). slice_get ms c.args.index ≡ Some c.in-Some.member.now) c.items.ensures c.in-Some.ensures.found) c.is_named_so.ensures

pub returns-in-None : goal.returns-in-None
returns-in-None c =
    decided_missing (λ (x : Member). utf_at c.args.file.now.pool x.name ≡ Some clinit_name) (slice_get c.args.file.now.methods c.args.index)
    (subst (λ (ms : List Member). slice_get ms c.args.index ≡ None) c.items.ensures c.in-None.ensures.missed)
