use Rattle.std.proofs.Common.{List, subst, arith}
use Rattle.std.proofs.lemmas.List.{take_all}
use Rattle.worklists.specs.Growth.{Grows, FromOne}
use Rattle.worklists.proofs.Growing.{Grows-none, Grows-more}
use Rattle.dep_form.specs.declared.rules.Entry.{Entry}
use Rattle.constraint_rules.specs.Entries.{IsEntryRule}
use Rattle.constraint_rules.proofs.OfRoots.{root_grown}
use Rattle.constraint_rules.proofs.root.push_root.Goals as goal

pub loop-entry-init : goal.loop-entry-init
loop-entry-init c = λ p s names set. Grows-none c.push.new.rules.items _ (λ x f. absurd (omega (arith, f.1.1)))

pub loop-entry-preserved : goal.loop-entry-preserved
loop-entry-preserved c = λ p s names set.
    Grows-more (IsEntryRule p s) c.args.entries.now c.loop-entry.entry-index _
    c.push.new.rules.items c.loop-entry.rules.items c.push_entry.new.rules.items
    c.loop-entry-test.true (c.loop-entry.invariant p s names set) (c.in_ok-push_entry.ensures p s names set (c.root_numbers.ensures.array p set.sites))

pub returns : goal.returns
returns c = λ p s names set same.
    root_grown p s c.args.entries.now c.root_numbers.result.0 c.root_numbers.result.1 c.args.rules.now.items c.push.new.rules.items c.loop-entry.rules.items same
    (c.root_numbers.ensures.array p set.sites) (c.root_numbers.ensures.element p set.sites) c.in_ok-push.ensures
    (subst (λ (ys : List Entry). Grows c.push.new.rules.items c.loop-entry.rules.items (FromOne (IsEntryRule p s) ys))
    (take_all c.loop-entry.entry-index c.args.entries.now c.loop-entry-test.false) (c.loop-entry.invariant p s names set))
