use Rattle.std.proofs.Common.{◌∙◌, ℕ, ap}
use Rattle.std.specs.Prelude.{not}
use Rattle.class_reader.specs.Numbers.{numbers_of, number_at, has_pair}
use Rattle.class_reader.proofs.NewMembers.{new_by_numbers}
use Rattle.class_reader.proofs.numbers.is_new.Goals as goal

pub returns-clause-value : goal.returns-clause-value
returns-clause-value c =
    let numbers = c.args.numbers.now in
    let old = c.args.seen.now in
    let first = ap (λ (n : ℕ). not (has_pair old (n, c.number_at-2.result))) c.number_at.ensures in
    let second = ap (λ (n : ℕ). not (has_pair old (number_at numbers c.args.name, n))) c.number_at-2.ensures in
    c.in_ok-insert.ensures.added ∙ first ∙ second ∙ ap not (c.requires.seen (numbers_of numbers (c.args.name, c.args.descriptor)))
    ∙ new_by_numbers c.args.pool.now numbers c.requires.numbers c.args.name c.args.descriptor c.requires.name c.requires.descriptor c.args.before.now c.requires.texts
