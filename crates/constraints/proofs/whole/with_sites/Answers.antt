use Rattle.std.proofs.Common.{List, sym, subst, arith}
use Rattle.signature_tables.specs.declared.texts.Texts.{Texts}
use Rattle.signature_tables.specs.declared.wanted.Wanted.TheVariants.{Signatures, ForeignStatics}
use Rattle.constraints.specs.Whole.{AreTextsOf}
use Rattle.constraints.proofs.whole.with_sites.Goals as goal

pub named-requires : goal.named-requires
named-requires c = let (p, given) = c.requires.program in record { bodies = (p, given.of, given.bodies_are) }

pub named-requires-2 : goal.named-requires-2
named-requires-2 c = let (p, given) = c.requires.program in record { bodies = (p, given.of, given.bodies_are) }

pub with_texts-requires : goal.with_texts-requires
with_texts-requires c = record {
  program = c.requires.program;
  followed = c.requires.followed;
  root = c.requires.root;
  sites = c.requires.sites;
  signatures = subst (λ (xs : List Texts). AreTextsOf Signatures c.args.h.now c.args.bodies.now xs) (sym c.as_slice.ensures.value)
      (record { few = omega (arith, c.in_ok-few.ensures, c.in_ok-signatures.signatures.ok.0); listed = λ p of e. c.in_ok-signatures.ensures p of e });
  foreign = subst (λ (xs : List Texts). AreTextsOf ForeignStatics c.args.h.now c.args.bodies.now xs) (sym c.as_slice-2.ensures.value)
      (record { few = omega (arith, c.in_ok-few-2.ensures, c.in_ok-foreign.foreign.ok.0); listed = λ p of e. c.in_ok-foreign.ensures p of e });
}
