use Rattle.std.proofs.Common.{rules, ap, sym, ◌∙◌}
use Rattle.summary_memo.specs.Memo.{view_of}
use Rattle.summary_memo.proofs.Moves.{joins}
use Rattle.summary_memo.proofs.Knowing.{first_knows, second_knows}
use Rattle.summary_memo.proofs.memo.Memo.join.Goals as goal

pub join_seat-requires : goal.join_seat-requires
join_seat-requires c = (search rules, search rules, search rules, search rules, joins _ _ _ _ _)

pub returns-clause-knows : goal.returns-clause-knows
returns-clause-knows c = first_knows _ (view_of c.args.seat.now) (view_of c.args.other) (ap (λ p. p.0) c.join_seat.ensures.2)

pub returns-clause-others : goal.returns-clause-others
returns-clause-others c = second_knows _ (view_of c.args.seat.now) (view_of c.args.other) (ap (λ p. p.0) c.join_seat.ensures.2) (c.requires.seat.about ∙ sym c.requires.other.about)
