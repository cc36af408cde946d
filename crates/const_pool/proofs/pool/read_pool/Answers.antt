use Rattle.std.proofs.Common.{◌≡◌, ◌∙◌, ℕ, Ok, Err, sym, subst, ap, arith}
use Rattle.std.proofs.lemmas.Result.{err_from_is_err_and}
use Rattle.byte_form.specs.States.{state}
use Rattle.byte_form.specs.Places.{State, IsBytes}
use Rattle.class_form.specs.PoolFaults.{SpellsPool}
use Rattle.class_form.specs.declared.pool.Pool.{Pool}
use Rattle.class_form.proofs.PoolLaws.{spelled_from, read_from, fault_named, fault_again, against}
use Rattle.const_pool.proofs.pool.read_pool.Goals as goal

abbrev Place : Type 0
Place = Pool × ℕ

pub returns-in_err-pool-clause-only : goal.returns-in_err-pool-clause-only
returns-in_err-pool-clause-only c = λ p len h.
    let q = err_from_is_err_and c.from_residual.result c.from_residual.ensures.1 in
    let fits : IsBytes c.args.bytes.now = λ i. omega (arith, c.type_inv.bytes i) in
    let r = read_from c.args.major c.args.bytes.now p len fits h in
    let given = rw c.new-cursor.ensures at c.in_err-pool.ensures.gives in
    rw (q.1, q.2) (against {A = Pool} {B = Place} c.in_err-pool.field-0.0 _ _ given (λ f e. absurd (let d = sym r.1 ∙ e in cc)))

pub returns-in_err-pool-clause-fault : goal.returns-in_err-pool-clause-fault
returns-in_err-pool-clause-fault c =
    let q = err_from_is_err_and c.from_residual.result c.from_residual.ensures.1 in
    let fits : IsBytes c.args.bytes.now = λ i. omega (arith, c.type_inv.bytes i) in
    let given = rw c.new-cursor.ensures at c.in_err-pool.ensures.gives in
    rw (q.1, q.2) (fault_named Place c.args.major c.args.bytes.now c.in_err-pool.field-0.0 fits given)

pub returns-in_err-pool-clause-refused : goal.returns-in_err-pool-clause-refused
returns-in_err-pool-clause-refused c = λ fault h.
    let q = err_from_is_err_and c.from_residual.result c.from_residual.ensures.1 in
    let fits : IsBytes c.args.bytes.now = λ i. omega (arith, c.type_inv.bytes i) in
    let r = fault_again c.args.major _ fault fits h in
    let given = rw c.new-cursor.ensures at c.in_err-pool.ensures.gives in
    rw (q.1, q.2) (against {A = Pool} {B = Place} c.in_err-pool.field-0.0 _ _ given (λ f e. let same : fault ≡ f = (let d = sym r ∙ e in cc) in ap (λ g. Err g) same))

pub returns-clause-found : goal.returns-clause-found
returns-clause-found c =
    let fits : IsBytes c.args.bytes.now = λ i. omega (arith, c.type_inv.bytes i) in
    let given = rw c.new-cursor.ensures at c.in_ok-pool.ensures.gives in
    let h = spelled_from c.args.major c.args.bytes.now c.in_ok-pool.pool (state c.pool_at.new.cursor) fits given in
    subst (SpellsPool c.args.major c.args.bytes.now c.in_ok-pool.pool) (sym c.at.ensures) h

pub returns-clause-only : goal.returns-clause-only
returns-clause-only c = λ p len h.
    let fits : IsBytes c.args.bytes.now = λ i. omega (arith, c.type_inv.bytes i) in
    let r = read_from c.args.major c.args.bytes.now p len fits h in
    let given = rw c.new-cursor.ensures at c.in_ok-pool.ensures.gives in
    let same : (p, r.0) ≡ (c.in_ok-pool.pool, state c.pool_at.new.cursor) = (let d = sym r.1 ∙ given in cc) in
    let pools : p ≡ c.in_ok-pool.pool = ap (λ (x : Pool × State). x.0) same in
    let ends : len ≡ c.at.result = sym r.2 ∙ ap (λ (x : Pool × State). x.1.at) same ∙ sym c.at.ensures in
    ap (λ (x : Pool). let y : Place = (x, len) in Ok y) pools ∙ ap (λ (n : ℕ). let y : Place = (c.in_ok-pool.pool, n) in Ok y) ends

pub returns-clause-refused : goal.returns-clause-refused
returns-clause-refused c = λ fault h.
    let fits : IsBytes c.args.bytes.now = λ i. omega (arith, c.type_inv.bytes i) in
    let r = fault_again c.args.major _ fault fits h in
    let given = rw c.new-cursor.ensures at c.in_ok-pool.ensures.gives in
    absurd (let d = sym r ∙ given in cc)
