use Rattle.std.proofs.Common.{◌≡◌, ℕ, refl, subst, length, arith}
use Rattle.std.proofs.lemmas.Option.{slice_get_read}
use Rattle.class_reader.specs.Numbers.{IsNumbering, IsNumbered, first_in}
use Rattle.class_reader.proofs.Numbering.{step, begun, whole, empty_first}
use Rattle.class_reader.proofs.numbers.numbers.Goals as goal

pub loop-constant-init : goal.loop-constant-init
loop-constant-init c = rw c.new-numbers.ensures.items (begun c.args.pool.now.constants (first_in c.new-firsts.result) (empty_first c.new-firsts.result c.new-firsts.ensures.empty))

pub loop-constant-preserved : goal.loop-constant-preserved
loop-constant-preserved c =
    let cs = c.args.pool.now.constants in
    let i = c.loop-constant.constant-index in
    let lt = rw c.items-constant-items.ensures at c.loop-constant-test.true in
    let is = rw c.items-constant-items.ensures at c.constant-item.is in
    let here = slice_get_read cs _ i c.constant-item.result refl lt is in
    let next : c.len.result ≡ i = omega (arith, c.len.ensures, c.loop-constant.invariant.len, c.loop-constant.numbers.ok.0) in
    let number = subst (λ (n : ℕ). IsNumbered c.constant-item.result n (first_in c.loop-constant.firsts) (first_in c.number_of.new.firsts) c.in_ok-number.number) next c.in_ok-number.ensures in
    rw c.in_ok-push.ensures.items (step cs i c.loop-constant.numbers.items (first_in c.loop-constant.firsts) (first_in c.number_of.new.firsts) c.in_ok-number.number c.loop-constant.invariant c.constant-item.result here number)

pub returns : goal.returns
returns c =
    let cs = c.args.pool.now.constants in
    let le = rw c.items-constant-items.ensures at c.loop-constant-test.false in
    let ge = rw c.items-constant-items.ensures at c.loop-constant.auto.constant-index-end in
    let end : c.loop-constant.constant-index ≡ length cs = omega (arith, le, ge) in
    whole c.args.pool.now c.loop-constant.numbers.items (first_in c.loop-constant.firsts) (subst (λ (n : ℕ). IsNumbering cs n c.loop-constant.numbers.items (first_in c.loop-constant.firsts)) end c.loop-constant.invariant)
