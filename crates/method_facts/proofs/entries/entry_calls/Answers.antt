use Rattle.std.proofs.Common.{◌≡◌, ◌⊎◌, List, length, subst}
use Rattle.slicer_ids.specs.declared.ids.MethodId.{MethodId}
use Rattle.dep_form.specs.declared.rules.Constraint.{Constraint}
use Rattle.fact_form.specs.EntryCalls.{root_of}
use Rattle.worklists.specs.Growth.{FromOne}
use Rattle.worklists.proofs.Growing.{FromBelow}
use Rattle.mod_ref.specs.Gains.{Gains}
use Rattle.mod_ref.proofs.Gaining.{gains_both, gained}
use Rattle.method_facts.specs.Entering.{AtNumber, Enters}
use Rattle.method_facts.proofs.EntryMethods.{entered}
use Rattle.method_facts.proofs.entries.entry_calls.Goals as goal

pub returns : goal.returns
returns c =
    let s = c.args.s.now in
    let ks = c.args.h.now in
    let none = c.new-methods.result.items in
    let mid = c.add_all_entered.new.methods.items in
    let all = c.add_initializers.new.methods.items in
    let Entered : MethodId → Type 0 = FromOne (Enters (root_of s)) s.constraints in
    let Initializer : MethodId → Type 0 = FromBelow (AtNumber s ks) (length s.methods) in
    let one = subst (λ (xs : List Constraint). Gains none mid (FromOne (Enters (root_of s)) xs)) c.items.ensures
    (subst (λ (r : MethodId). Gains none mid (FromOne (Enters r) c.items.result.now)) c.root_of-root.ensures c.in_ok-add_all_entered.ensures) in
    let both = gains_both none mid all Entered Initializer one c.in_ok-add_initializers.ensures in
    λ p same coded. entered s ks all c.in_order.result.items c.in_order.ensures.order c.in_order.ensures.members (gained none all (λ t. Entered t ⊎ Initializer t) c.new-methods.ensures.items both) p same coded
