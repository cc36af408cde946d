use Rattle.std.proofs.Common.{◌≡◌, List, Some, refl, sym, subst}
use Rattle.std.specs.Prelude.{map, option_map, Contains}
use Rattle.std.proofs.lemmas.Result.{on_ok_weaker}
use Rattle.worklists.proofs.Growing.{Grows-same}
use Rattle.class_form.specs.declared.body.Instr.{Instr}
use Rattle.program_form.specs.Statements.{IsAt}
use Rattle.signature_tables.specs.TextPairs.{pair_of}
use Rattle.signature_tables.specs.Statements.{NamesTexts, IsInstrPc, statement}
use Rattle.signature_tables.proofs.NamedGrowth.{body_method, nothing_named}
use Rattle.signature_tables.proofs.naming.push_named.Goals as goal

pub file_of-file-requires : goal.file_of-file-requires
file_of-file-requires c = body_method c.args.h.now c.args.body.now c.requires.body

pub returns-in-Some : goal.returns-in-Some
returns-in-Some c = λ p q of has point.
    let t = statement c.args.body.now c.args.pc in
    let found = c.in-Some.ensures.found in
    let (k, file) = c.file_of-file.ensures p of in
    let at : IsAt p t c.args.body.now c.in-Some.instr.now = (has, refl, subst (λ (is : List Instr). Contains is c.in-Some.instr.now) c.items.ensures found.0, found.1, (q, point)) in
    let texts = c.texts_of.ensures p t c.args.body.now k of at file in
    on_ok_weaker c.push.result (λ g. Grows-same (map pair_of c.args.texts.now.items) (map pair_of c.push.new.texts.items) (λ nd. option_map pair_of c.texts_of.result ≡ Some nd) (NamesTexts c.args.wanted p t)
    (λ nd e. (texts nd).1 e) (λ nd names. (texts nd).0 names) g) c.push.ensures

pub returns-in-None : goal.returns-in-None
returns-in-None c = λ p q of has point.
    nothing_named c.args.h.now c.args.wanted p c.args.body.now c.args.pc (map pair_of c.args.texts.now.items) of has
    (λ here. c.in-None.ensures.missed (subst (λ (is : List Instr). IsInstrPc is c.args.pc) (sym c.items.ensures) here))
