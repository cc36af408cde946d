use Rattle.std.proofs.Common.{◌≡◌, ◌-◌, ℕ, Some, length, ap, arith, subst}
use Rattle.std.specs.Prelude.{slice_get}
use Rattle.std.proofs.lemmas.List.{length_push}
use Rattle.tabulate.specs.Frames.{first_exit, exit_count, number_of}
use Rattle.tabulate.specs.States.{IsWordFound}
use Rattle.tabulate.proofs.Placing.{behind_first, is_exit, exit_place, number_low, has_input}
use Rattle.tabulate.proofs.RowLaws.{row_found, words_more}
use Rattle.tabulate.proofs.table_rows.row_of.Goals as goal

pub formals-formals-requires : goal.formals-formals-requires
formals-formals-requires c =
    let x = c.requires.exit in
    let i = has_input c.args.f.now x.0 x.2.0 in
    (i.0, subst (λ (k : ℕ). slice_get c.args.f.now.inputs k ≡ Some (Some i.0)) x.2.1 i.1)

pub overflow_sub-number : goal.overflow_sub-number
overflow_sub-number c = let x = c.requires.exit in omega (arith, behind_first c.args.f.now c.args.exit x.0 x.1 x.2.0, c.requires.method.exit_is, ap (first_exit c.args.f.now) x.2.1)

pub word_of-requires-clause-number : goal.word_of-requires-clause-number
word_of-requires-clause-number c =
    let x = c.requires.exit in
    let p = c.args.f.now in
    omega (arith, behind_first p c.args.exit x.0 x.1 x.2.0, number_low p x.0.0 (is_exit p c.args.exit x.0 x.1 x.2.0), c.requires.method.exit_is, ap (first_exit p) x.2.1, ap (exit_count p) x.2.1)

pub loop-word-preserved : goal.loop-word-preserved
loop-word-preserved c = record {
  len = omega (arith, c.loop-word.invariant.len, ap length c.in_ok-push.ensures.items, length_push c.loop-word.row.items c.word_of.result);
  words = words_more (IsWordFound c.args.f.now c.args.found.now.items c.args.method.now.first.0 c.formals-formals.result _) c.loop-word.row.items c.push.new.self.items c.word_of.result c.loop-word.word c.loop-word.invariant.len c.in_ok-push.ensures.items c.loop-word.invariant.words c.word_of.ensures;
}

pub returns : goal.returns
returns c =
    let x = c.requires.exit in
    let p = c.args.f.now in
    let number_is : c.args.exit.0 - c.args.method.now.first_exit ≡ number_of p x.0.0 = omega (arith, exit_place p c.args.exit x.0 x.1, c.requires.method.exit_is, ap (first_exit p) x.2.1) in
    row_found p c.args.found.now.items c.args.exit x.0 x.1 c.args.method.now c.requires.method x.2 c.formals-formals.result _ c.formals-formals.ensures number_is c.loop-word.row.items (omega (arith, c.loop-word.invariant.len, c.loop-word-test.false, c.loop-word.auto.word-end, c.div_ceil-word-end.ensures))
    (λ k lt. c.loop-word.invariant.words k (omega (arith, lt, c.loop-word.invariant.len)))
