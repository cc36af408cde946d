use Rattle.std.proofs.Common.{◌<◌, ◌≤◌, ◌≡◌, ◌+◌, ◌-◌, ◌++◌, ◌∷◌, [], ℕ, List, length, sym, ap, subst, ◌∙◌, arith}
use Rattle.std.proofs.lemmas.List.{length-append}
use Rattle.slicer_ids.specs.declared.ids.ClassId.{ClassId}
use Rattle.class_form.specs.declared.class_file.ClassFile.{ClassFile}
use Rattle.constraint_rules.specs.Supers.{IsClimbed}
use Rattle.constraint_rules.proofs.Climbs.{climbed_none, climbed_more, climbed_all}
use Rattle.constraint_rules.proofs.supers.upwards.Goals as goal

pub loop-next-init : goal.loop-next-init
loop-next-init c = λ p of. subst (λ (xs : List ClassId). IsClimbed p.classes c.args.first xs c.args.first) (sym c.new-classes.ensures.items) (climbed_none p.classes c.args.first)

pub loop-next-preserved : goal.loop-next-preserved
loop-next-preserved c = λ p of.
    subst (λ (xs : List ClassId). IsClimbed p.classes c.args.first xs c.super_of-next.result) (sym c.in_ok-push.ensures)
    (climbed_more p.classes c.args.first c.loop-next.classes.items c.in-Some.class c.super_of-next.result (c.super_of-next.ensures p of)
    (subst (λ o. IsClimbed p.classes c.args.first c.loop-next.classes.items o) c.in-Some.is (c.loop-next.invariant p of)))

falls : (h n m : ℕ) → n ≤ h → m ≡ n + 1 → h + 2 - m < h + 2 - n
falls h n m le e = omega arith

pub loop-next-smaller : goal.loop-next-smaller
loop-next-smaller c =
    let count : length c.push.new.classes.items ≡ length c.loop-next.classes.items + 1 =
    ap (λ (xs : List ClassId). length xs) c.in_ok-push.ensures ∙ length-append c.loop-next.classes.items (c.in-Some.class ∷ []) in
    falls (length c.args.h.now) (length c.loop-next.classes.items) (length c.push.new.classes.items)
    (omega (arith, c.if-len-classes.false, c.len.ensures, c.loop-next.classes.ok.0, ap (λ (ks : List ClassFile). length ks) c.classes.ensures.classes)) count

pub returns : goal.returns
returns c = λ p of.
    climbed_all p.classes c.args.first c.loop-next.classes.items
    (subst (λ o. IsClimbed p.classes c.args.first c.loop-next.classes.items o) c.in_default.is (c.loop-next.invariant p of))
