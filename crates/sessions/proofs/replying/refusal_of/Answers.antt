use Rattle.std.proofs.Common.{sym, subst}
use Rattle.script.specs.declared.command.LineError.{LineError}
use Rattle.report.specs.declared.reply.CommandError.TheVariants.{LineTooLong, UnknownCommand, WrongArity, BadNumber}
use Rattle.session_form.specs.Scripts.{IsRefusal, too_long, unknown, arity, number}
use Rattle.sessions.proofs.replying.refusal_of.Goals as goal

pub returns-in-TooLong : goal.returns-in-TooLong
returns-in-TooLong c = subst (λ (e : LineError). IsRefusal e LineTooLong) (sym c.in-TooLong.is) too_long

pub returns-in-Unknown : goal.returns-in-Unknown
returns-in-Unknown c = subst (λ (e : LineError). IsRefusal e UnknownCommand) (sym c.in-Unknown.is) unknown

pub returns-in-Arity : goal.returns-in-Arity
returns-in-Arity c = subst (λ (e : LineError). IsRefusal e WrongArity) (sym c.in-Arity.is) arity

pub returns-in-BadNumber : goal.returns-in-BadNumber
returns-in-BadNumber c = subst (λ (e : LineError). IsRefusal e BadNumber) (sym c.in-BadNumber.is) number
