use Rattle.explainers.proofs.Bringings.{explained}
use Rattle.explainers.proofs.explain.explain.Goals as goal

pub returns : goal.returns
returns c = explained c.args.f.now c.args.a.now c.args.b.now c.items.result.now c.items-2.result.now c.in_ok-objects.objects.items c.deref.result.now c.deref-2.result.now c.from_vec.result c.in_ok-left.left c.in_ok-right.right
    c.items.ensures c.items-2.ensures c.deref.ensures.value c.deref-2.ensures.value c.from_vec.ensures c.in_ok-objects.ensures c.in_ok-left.ensures c.in_ok-right.ensures
