use Rattle.std.proofs.Common.{◌≡◌, ◌≤◌, ◌∙◌, length, take, refl, subst, List, arith}
use Rattle.std.proofs.lemmas.List.{take_all}
use Rattle.worklists.specs.Growth.{FromOne, Grows}
use Rattle.worklists.proofs.Growing.{Grows-more, Grows-none}
use Rattle.slicer_ids.specs.declared.ids.MethodId.{MethodId}
use Rattle.mod_ref.proofs.Backwards.{grows_all}
use Rattle.mod_ref.proofs.leading.add_all.Goals as goal

pub loop-m-init : goal.loop-m-init
loop-m-init c = record { size = refl; set = c.requires.set; grown = Grows-none c.args.found.now.items.items (FromOne (λ (m : MethodId) n. n ≡ m.0) (take 0 c.args.methods.now)) (λ n f. omega (arith, f.1.1)) }

pub add-requires-clause-within : goal.add-requires-clause-within
add-requires-clause-within c = omega (arith, c.requires.within c.loop-m.m-index (record { 0 = 0 }) c.loop-m-test.true, c.loop-m.invariant.size)

pub loop-m-preserved : goal.loop-m-preserved
loop-m-preserved c = record {
  size = c.add.ensures.size ∙ c.loop-m.invariant.size;
  set = c.in_ok-add.ensures.set;
  grown = Grows-more (λ (m : MethodId) n. n ≡ m.0) c.args.methods.now c.loop-m.m-index _ c.args.found.now.items.items c.loop-m.found.items.items c.add.new.self.items.items c.loop-m-test.true c.loop-m.invariant.grown c.in_ok-add.ensures.grown;
}

pub returns-clause-grown : goal.returns-clause-grown
returns-clause-grown c = grows_all c.args.methods.now c.args.found.now.items.items c.loop-m.found.items.items (subst (λ (ms : List MethodId). Grows c.args.found.now.items.items c.loop-m.found.items.items (FromOne (λ (m : MethodId) n. n ≡ m.0) ms)) (take_all c.loop-m.m-index c.args.methods.now c.loop-m-test.false) c.loop-m.invariant.grown)
