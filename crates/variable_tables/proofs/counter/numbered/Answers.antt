use Rattle.std.proofs.Common.{◌++◌, ◌∷◌, [], ap, ◌∙◌, subst, sym, take}
use Rattle.std.proofs.lemmas.List.{take_more, take_all}
use Rattle.variable_tables.specs.Numbers.{IsCounted, numbers_of}
use Rattle.variable_tables.proofs.Counting.{keys_push, numbers_push}
use Rattle.variable_tables.proofs.counter.numbered.Goals as goal

pub loop-key-preserved : goal.loop-key-preserved
loop-key-preserved g c =
    let first = c.args.fresh.now.next in
    let keys = c.args.keys.now in
    let i = c.loop-key.key-index in
    let table = c.loop-key.table.items in
    let more = c.push.new.self.items in
    let key = c.key-item.result in
    let var = c.in_ok-var.var in
    record {
      keyed = keys_push table more (take i keys) key var c.in_ok-push.ensures.items c.loop-key.invariant.keyed
          ∙ ap (λ k. take i keys ++ k ∷ []) c.key-item.is ∙ sym (take_more keys i key c.loop-key-test.true);
      numbers = subst (λ n. IsCounted first (numbers_of more) n) (sym c.in_ok-var.ensures.1)
          (numbers_push first c.loop-key.fresh.next table more key var c.in_ok-push.ensures.items c.loop-key.invariant.numbers c.in_ok-var.ensures.0);
    }

pub returns-clause-keys : goal.returns-clause-keys
returns-clause-keys g c = c.loop-key.invariant.keyed ∙ take_all c.loop-key.key-index c.args.keys.now c.loop-key-test.false
