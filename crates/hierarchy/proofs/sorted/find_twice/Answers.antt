use Rattle.std.proofs.Common.{◌-◌, sym, subst, ap, ◌∙◌, arith}
use Rattle.std.proofs.lemmas.List.{get_or_read}
use Rattle.std.proofs.lemmas.Bool.{iff_false}
use Rattle.class_form.specs.Folders.{StandsTwice, IsLeastName}
use Rattle.hierarchy.specs.Names.{name_bytes}
use Rattle.hierarchy.proofs.Twice.{in_order, rises_more, least_twice}
use Rattle.hierarchy.proofs.sorted.find_twice.Goals as goal

pub returns-then-have_one_name : goal.returns-then-have_one_name
returns-then-have_one_name c =
    let classes = c.args.classes.now in
    let i = c.loop-i.i in
    let d = c.index-classes-i.result in
    let before = get_or_read classes (i - 1) c.index-classes-i-in-loop-i.result (omega arith) c.index-classes-i-in-loop-i.is d in
    let same = ap name_bytes (sym before) ∙ c.have_one_name.ensures.0 c.if-have_one_name.true ∙ ap name_bytes c.index-classes-i.is in
    subst (IsLeastName (StandsTwice classes)) (sym (c.name_of.ensures ∙ ap name_bytes c.index-classes-i.is))
    (least_twice classes c.requires.named c.requires.sorted i d (omega arith) (omega arith) c.loop-i.invariant same)

pub loop-i-preserved : goal.loop-i-preserved
loop-i-preserved c = rises_more c.args.classes.now c.loop-i.i c.requires.sorted c.loop-i.invariant (omega arith) (omega arith)
    (λ d e. iff_false c.have_one_name.ensures c.if-have_one_name.false
    (ap name_bytes (get_or_read c.args.classes.now (c.loop-i.i - 1) c.index-classes-i-in-loop-i.result (omega arith) c.index-classes-i-in-loop-i.is d)
    ∙ e ∙ ap name_bytes (sym (get_or_read c.args.classes.now c.loop-i.i c.index-classes-i.result (omega arith) c.index-classes-i.is d))))

pub returns : goal.returns
returns c = in_order c.args.classes.now c.requires.named c.requires.sorted c.loop-i.i (omega arith) c.loop-i.invariant
