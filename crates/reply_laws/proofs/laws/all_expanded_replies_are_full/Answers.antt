use Rattle.reply_laws.proofs.AllExpanded.{one_reply, full_lines, all_expanded}
use Rattle.reply_laws.proofs.laws.all_expanded_replies_are_full.Goals as goal

pub returns-clause-slice : goal.returns-clause-slice
returns-clause-slice c = λ f before s t a b all h k. one_reply f before s t a b all h k

pub returns-clause-lines : goal.returns-clause-lines
returns-clause-lines c = λ f before s a ls all some h k. full_lines f before s a ls all some h k

pub returns-clause-after_expand_all : goal.returns-clause-after_expand_all
returns-clause-after_expand_all c = λ f before after s t done a b expanded h k. one_reply f after s t a b (all_expanded f before after done expanded) h k
