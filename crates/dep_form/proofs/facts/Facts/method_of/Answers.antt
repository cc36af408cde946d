use Rattle.std.proofs.Common.{List, ◌≡◌, ◌≤◌, ◌+◌, ◌-◌, ℕ, leb, length, rules, sym, subst, arith, true, false, Some}
use Rattle.std.specs.Prelude.{slice_get}
use Rattle.std.specs.List.Sorted.{IsPartitionPoint, IsNonDecreasingBy}
use Rattle.std.proofs.lemmas.List.Sorted.{IsPartitionPoint-from_clause, IsPartitionedBy-leb}
use Rattle.dep_form.proofs.Firsts.{firsts_rise, last_before}
use Rattle.dep_form.proofs.facts.Facts.method_of.Goals as goal

point : (c : goal.After-partition_point-before) → c.partition_point-before.result ≡ c.requires.0.0 + 1
point c =
    let f = c.args.self.now in
    let P : List ℕ → Type 0 = λ xs. IsPartitionPoint (λ (y : ℕ). leb y c.args.n.0 ≡ true) (λ (y : ℕ). leb y c.args.n.0 ≡ false) xs c.partition_point-before.result in
    let parted : IsNonDecreasingBy (λ n. n) c.items.result.now = subst (λ (xs : List ℕ). IsNonDecreasingBy (λ n. n) xs) (sym c.items.ensures) (firsts_rise f) in
    let h = IsPartitionPoint-from_clause (λ y. leb y c.args.n.0) c.items.result.now c.partition_point-before.result c.partition_point-before.ensures.partitioned (IsPartitionedBy-leb (λ n. n) c.items.result.now c.args.n.0 parted) (λ a r f' k. search rules) in
    last_before f c.args.n c.partition_point-before.result (subst (λ (xs : List ℕ). c.partition_point-before.result ≤ length xs) c.items.ensures c.partition_point-before.ensures.bound) (subst P c.items.ensures h) c.requires.0 c.requires.1

pub overflow_sub-result : goal.overflow_sub-result
overflow_sub-result c = omega (arith, point c)

pub returns : goal.returns
returns c =
    let at : c.requires.0.0 ≡ c.partition_point-before.result - 1 = omega (arith, point c) in
    (c.requires.1.0, subst (λ m. slice_get c.args.self.now.inputs m ≡ Some c.requires.1.0) at c.requires.1.1, c.requires.1.2)
