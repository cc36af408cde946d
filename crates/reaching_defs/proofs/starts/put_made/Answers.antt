use Rattle.std.proofs.Common.{◌≡◌, ℕ, List, subst, ◌∙◌}
use Rattle.std.proofs.lemmas.List.{take_all}
use Rattle.class_form.specs.declared.body.Def.TheVariants.{Value}
use Rattle.worklists.specs.Growth.{Grows, FromOne}
use Rattle.worklists.proofs.Growing.{Grows-more}
use Rattle.reaching_defs.specs.Starts.{start}
use Rattle.reaching_defs.proofs.Beginning.{all_made}
use Rattle.reaching_defs.proofs.starts.put_made.Goals as goal

pub loop-slot-preserved : goal.loop-slot-preserved
loop-slot-preserved c = Grows-more (λ slot x. x ≡ start slot (Value c.args.point.now.pc)) c.items-makes.result.now c.loop-slot.slot-index 0 c.args.starts.now.items c.loop-slot.starts.items c.put.new.starts.items c.loop-slot-test.true c.loop-slot.invariant c.in_ok-put.ensures

pub returns : goal.returns
returns c =
    let p = c.args.point.now in
    let all = take_all c.loop-slot.slot-index c.items-makes.result.now c.loop-slot-test.false ∙ c.items-makes.ensures in
    all_made p c.args.starts.now.items c.loop-slot.starts.items (subst (λ (xs : List ℕ). Grows c.args.starts.now.items c.loop-slot.starts.items (FromOne (λ slot x. x ≡ start slot (Value p.pc)) xs)) all c.loop-slot.invariant)
