use Rattle.std.proofs.Common.{Option, Some, None, IfSome, IfNone}
use Rattle.std.specs.Option.{MatchOption}
use Rattle.std.proofs.lemmas.Slice.Eq.{strip_prefix_is}
use Rattle.std.proofs.lemmas.Bool.Decides.{Decides-eqb}
use Rattle.words.proofs.scripts.after_prefix.Goals as goal

both : {A : Type 0} (P : Type 0) (Q : A → Type 0) (r : Option A) → MatchOption r P Q → IfSome r Q × IfNone r P
both {A} P Q None h = (tt, h)
both {A} P Q (Some x) h = (h, tt)

pub returns : goal.returns
returns c =
    let h = strip_prefix_is Decides-eqb c.args.bytes.now c.args.prefix.now c.strip_prefix.result c.strip_prefix.ensures.cases in
    let b = both _ _ c.strip_prefix.result h in
    record { found = b.0; missed = b.1 }
