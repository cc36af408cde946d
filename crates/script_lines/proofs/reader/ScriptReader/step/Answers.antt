use Rattle.std.proofs.Common.{ℕ, List, [], ◌∷◌, ◌++◌, get_or, refl, inl, inr, arith}
use Rattle.std.proofs.lemmas.List.{get_or_default}
use Rattle.script_lines.proofs.Taking.{comes_too_long, one_byte, one_end, unread_more}
use Rattle.script_lines.proofs.reader.ScriptReader.step.Goals as goal

pub returns-then-self-eq-MOST_LINES-clause-within : goal.returns-then-self-eq-MOST_LINES-clause-within
returns-then-self-eq-MOST_LINES-clause-within c = λ script lines rest left w.
    let r = c.args.self.now in
    let b : ℕ = get_or r.chunk.items r.at 0 in
    comes_too_long script lines rest r w.0 w.3 b _ (unread_more r.chunk.items r.at r.end b c.requires r.within_chunk (get_or_default r.chunk.items r.at 0 b (omega (arith, c.requires, r.within_chunk)))) (inl (omega (arith, c.if-self-eq-MOST_LINES.true)))

pub returns-then-self-eq-MOST_BYTES-clause-within : goal.returns-then-self-eq-MOST_BYTES-clause-within
returns-then-self-eq-MOST_BYTES-clause-within c = λ script lines rest left w.
    let r = c.args.self.now in
    let b : ℕ = get_or r.chunk.items r.at 0 in
    comes_too_long script lines rest r w.0 w.3 b _ (unread_more r.chunk.items r.at r.end b c.requires r.within_chunk (get_or_default r.chunk.items r.at 0 b (omega (arith, c.requires, r.within_chunk)))) (inr (omega (arith, c.if-self-eq-MOST_BYTES.true)))

pub returns-then-byte-eq10-clause-within : goal.returns-then-byte-eq10-clause-within
returns-then-byte-eq10-clause-within c = λ script lines rest left w.
    let r = c.args.self.now in
    (rest, w.3.last, w.2, (w.0, w.1, one_end script lines rest r w.0 w.3 _ c.index-byte.result.now (unread_more r.chunk.items r.at r.end c.index-byte.result.now c.requires r.within_chunk c.index-byte.ensures) refl c.if-byte-eq10.true refl))

pub returns-clause-within : goal.returns-clause-within
returns-clause-within c = λ script lines rest left w.
    let r = c.args.self.now in
    let b = c.index-byte.result.now in (
      rest ++ b ∷ [],
      (
        w.0,
        w.1,
        c.keep.ensures.kept rest w.2,
        one_byte script lines rest r w.0 w.3 _ b (unread_more r.chunk.items r.at r.end b c.requires r.within_chunk c.index-byte.ensures) refl c.if-byte-eq10.false refl (λ e. c.if-self-eq-MOST_LINES.false (omega (arith, e))),
      ),
    )
