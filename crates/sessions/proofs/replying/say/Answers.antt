use Rattle.std.proofs.Common.{◌≡◌, ◌<◌, ℕ, true, length, take, sym, subst}
use Rattle.std.specs.Prelude.{IfOk, OnErr}
use Rattle.edge_io.specs.Reads.{appended}
use Rattle.report.specs.Replies.{Answer, IsOfFacts, text}
use Rattle.sessions.proofs.replying.say.Goals as goal

pub write_whole-requires : goal.write_whole-requires
write_whole-requires g c = subst (IsOfFacts c.args.f.now) (sym c.reply-reply.ensures) c.requires

pub returns-clause-told : goal.returns-clause-told
returns-clause-told g c = subst (λ (a : Answer). IfOk c.write_whole.result (λ b. (b ≡ true) × (g.K.Sink.written c.write_whole.new.sink ≡ appended (text c.args.f.now a) (g.K.Sink.written c.args.sink.now)))) c.reply-reply.ensures c.write_whole.ensures.told

pub returns-clause-part : goal.returns-clause-part
returns-clause-part g c = subst (λ (a : Answer). OnErr c.write_whole.result ((k : ℕ) × (k < length (text c.args.f.now a)) × (g.K.Sink.written c.write_whole.new.sink ≡ appended (take k (text c.args.f.now a)) (g.K.Sink.written c.args.sink.now)))) c.reply-reply.ensures c.write_whole.ensures.part
