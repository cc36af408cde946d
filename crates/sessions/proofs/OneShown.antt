-- What was shown of an answer, as each answer that the command has.
use Rattle.std.proofs.Common.{◌≡◌, ◌⊎◌, ◌<◌, Bool, true, ℕ, List, length, take, Option, Result, Ok, Err, inl, inr, refl, sym, ap, subst}
use Rattle.std.specs.Prelude.{IfOk, IfErr, OnOk, OnErr}
use Rattle.edge_io.specs.declared.sink.SinkError.{SinkError}
use Rattle.edge_io.specs.declared.sink.SinkError.TheVariants as refusal
use Rattle.edge_io.specs.Reads.{appended}
use Rattle.dep_form.specs.declared.facts.Facts.{Facts}
use Rattle.script.specs.declared.command.Command.{Command}
use Rattle.script.specs.declared.command.LineError.{LineError}
use Rattle.report.specs.declared.reply.CommandError.{CommandError}
use Rattle.report.specs.Replies.{Answer, Error, text}
use Rattle.session_form.specs.States.{State}
use Rattle.session_form.specs.Answers.{Answers}
use Rattle.session_form.specs.Scripts.{IsRefusal}
use Rattle.session_form.proofs.OneAnswer.{one_answer}
use Rattle.sessions.specs.Desks.{IsShown, IsPartShown}
use Rattle.sessions.proofs.OneReply.{one_refusal}

pub on_ok : (r : Result Bool SinkError) (P : Type 0) → P → OnOk r P
on_ok (Ok b) P h = h
on_ok (Err e) P h = tt

-- want of memory is no fault
pub no_fault_here : (P : Type 0) → refusal.NoMemory ≡ refusal.Fault → P
no_fault_here P e = absurd (cc e)

module _ (f : Facts) (st : State) (c : Command) (a : Answer) (st' : State) (is : Answers f st c a st') (old new : Option (List ℕ)) where
  pub said_whole : (r : Result Bool SinkError) → IfOk r (λ b. (b ≡ true) × (new ≡ appended (text f a) old)) → IfOk r (λ b. (b ≡ true) × IsShown f st c st' old new)
  said_whole (Ok b) h = (h.0, (a, is, h.1))
  said_whole (Err e) h = tt

  pub said_part : (r : Result Bool SinkError) → OnErr r ((k : ℕ) × (k < length (text f a)) × (new ≡ appended (take k (text f a)) old)) → OnErr r ((b : Answer) (after : State) → Answers f st c b after → IsPartShown f b old new)
  said_part (Ok b) h = tt
  said_part (Err e) h = λ b after other.
      subst (λ (x : Answer). IsPartShown f x old new) (one_answer f c st a b st' after is other).0 (h.0, inr h.1, h.2)

module _ (f : Facts) (x : LineError) (e : CommandError) (is : IsRefusal x e) (old new : Option (List ℕ)) where
  pub refused_whole : (r : Result Bool SinkError) → IfOk r (λ b. (b ≡ true) × (new ≡ appended (text f (Error e)) old))
      → IfOk r (λ b. (b ≡ true) × (y : CommandError) × IsRefusal x y × (new ≡ appended (text f (Error y)) old))
  refused_whole (Ok b) h = (h.0, e, is, h.1)
  refused_whole (Err y) h = tt

  pub refused_part : (r : Result Bool SinkError) → OnErr r ((k : ℕ) × (k < length (text f (Error e))) × (new ≡ appended (take k (text f (Error e))) old)) → OnErr r ((y : CommandError) → IsRefusal x y → IsPartShown f (Error y) old new)
  refused_part (Ok b) h = tt
  refused_part (Err z) h = λ y other. subst (λ (w : CommandError). IsPartShown f (Error w) old new) (one_refusal x x e y refl is other) (h.0, inr h.1, h.2)
