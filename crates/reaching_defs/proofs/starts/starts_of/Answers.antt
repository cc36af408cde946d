use Rattle.std.proofs.Common.{◌<◌, ◌≤◌, ℕ, List, get_or, sym, subst, arith}
use Rattle.std.proofs.lemmas.List.Elements.{Contains-get_or}
use Rattle.std.specs.Prelude.{All, sum}
use Rattle.reaching_defs.proofs.Beginning.{each_start, all_starts}
use Rattle.reaching_defs.proofs.starts.starts_of.Goals as goal

pub put_formals-requires-clause-fit : goal.put_formals-requires-clause-fit
put_formals-requires-clause-fit c = subst (λ (xs : List ℕ). sum xs ≤ 65535) (sym c.items.ensures) (omega (arith, c.requires.flow.formals))

pub put_caught-requires : goal.put_caught-requires
put_caught-requires c =
    let items = c.find_all_handlers.new.found.items.items in
    let all : All (λ n. n < 65536) items = λ k d lt. omega (arith, c.in_ok-find_all_handlers.ensures.set.below k d lt, c.find_all_handlers.ensures.size, c.in_ok-found.ensures.size, c.requires.small) in
    subst (All (λ n. n < 65536)) (sym c.as_slice.ensures.value) all

pub returns-clause-each : goal.returns-clause-each
returns-clause-each c = λ k d lt.
    let s = c.args.shape.now in
    let h = c.find_all_handlers.new.found.items.items in
    let all = c.put_caught.new.starts.items in
    each_start s h c.put_formals.new.starts.items c.put_values.new.starts.items all (rw (c.in_ok-found.ensures.none, c.items-points.ensures) at c.in_ok-find_all_handlers.ensures.grown) (rw (c.new-starts.ensures.items, c.items.ensures) at c.in_ok-put_formals.ensures) (rw c.items-points.ensures at c.in_ok-put_values.ensures) (rw c.as_slice.ensures.value at c.in_ok-put_caught.ensures) (get_or all k d) (Contains-get_or all k d lt)

pub returns-clause-whole : goal.returns-clause-whole
returns-clause-whole c = λ pc slot def b.
    let s = c.args.shape.now in
    let h = c.find_all_handlers.new.found.items.items in
    let all = c.put_caught.new.starts.items in
    all_starts s h c.put_formals.new.starts.items c.put_values.new.starts.items all (rw (c.in_ok-found.ensures.none, c.items-points.ensures) at c.in_ok-find_all_handlers.ensures.grown) (rw (c.new-starts.ensures.items, c.items.ensures) at c.in_ok-put_formals.ensures) (rw c.items-points.ensures at c.in_ok-put_values.ensures) (rw c.as_slice.ensures.value at c.in_ok-put_caught.ensures) pc slot def b
