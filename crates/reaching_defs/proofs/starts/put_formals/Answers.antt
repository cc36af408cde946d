use Rattle.std.proofs.Common.{◌≡◌, ℕ, length, get_or, refl, subst, arith}
use Rattle.std.proofs.lemmas.List.Sums.{sum_by_more}
use Rattle.worklists.specs.Growth.{Grows}
use Rattle.worklists.proofs.Growing.{FromBelow, Grows-next}
use Rattle.reaching_defs.specs.Starts.{IsFormalStart}
use Rattle.reaching_defs.proofs.Beginning.{one_formal, all_formals}
use Rattle.reaching_defs.proofs.starts.put_formals.Goals as goal

pub loop-i-preserved : goal.loop-i-preserved
loop-i-preserved c = record {
  first = omega (arith, c.loop-i.invariant.first, sum_by_more (λ (n : ℕ). n) c.args.arguments.now c.loop-i.i 0 c.loop-i-test.true);
  grown = Grows-next (IsFormalStart c.args.arguments.now) c.loop-i.i c.args.starts.now.items c.loop-i.starts.items c.put_slots.new.starts.items c.loop-i.invariant.grown
      (one_formal c.args.arguments.now c.loop-i.i c.loop-i.first (get_or c.args.arguments.now c.loop-i.i 0) c.loop-i.starts.items c.put_slots.new.starts.items c.loop-i-test.true refl c.loop-i.invariant.first c.in_ok-put_slots.ensures);
}

pub returns : goal.returns
returns c =
    let end : c.loop-i.i ≡ length c.args.arguments.now = omega arith in
    all_formals c.args.arguments.now c.args.starts.now.items c.loop-i.starts.items (subst (λ n. Grows c.args.starts.now.items c.loop-i.starts.items (FromBelow (IsFormalStart c.args.arguments.now) n)) end c.loop-i.invariant.grown)
