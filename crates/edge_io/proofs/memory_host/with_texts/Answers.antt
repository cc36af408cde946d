use Rattle.std.proofs.Common.{◌≡◌, ℕ, List, ◌∷◌, [], ◌++◌, length, ap, sym, subst, ◌∙◌}
use Rattle.std.proofs.lemmas.Iterator.Adapters.{YieldsList-from_vec}
use Rattle.std.proofs.lemmas.Iterator.Consumers.{YieldsList-turn}
use Rattle.std.specs.Str.{IsUtf8}
use Rattle.edge_io.specs.declared.host.Entry.{Entry}
use Rattle.edge_io.proofs.Places.{Stored}
use Rattle.edge_io.proofs.memory_host.with_texts.Goals as goal

-- what was pushed is what was taken
pushed : (name text bytes : List ℕ) (e : Entry) (all after yielded : List Stored) → IsUtf8 name → bytes ≡ name → (IsUtf8 bytes → text ≡ bytes) → all ≡ yielded → after ≡ all ++ (text, e) ∷ [] → after ≡ yielded ++ (name, e) ∷ []
pushed name text bytes e all after yielded utf8 is_bytes is_text same is_after =
    is_after ∙ ap (λ (s : List Stored). s ++ (text, e) ∷ []) same ∙ ap (λ (t : List ℕ). yielded ++ (t, e) ∷ []) (is_text (subst IsUtf8 (sym is_bytes) utf8) ∙ is_bytes)

pub loop-name-preserved : goal.loop-name-preserved
loop-name-preserved c =
    let b = c.into_iter-name-iterator.ensures.into_iter_gives in
    let t = YieldsList-turn (YieldsList-from_vec {s = c.into_iter-name-iterator.result} c.args.files.items b.0 (b.1 ∙ c.args.files.ok.0)) c.loop-name.yielded c.loop-name.name-iterator c.loop-name.yielded_by c.next.result c.next.new.self (c.in-Some.name, c.in-Some.entry) c.in-Some.is c.next.ensures.steps in
    let utf8 = subst (λ (s : Stored). IsUtf8 s.0) (sym t.1) (c.requires (length c.loop-name.yielded) (c.in-Some.name, c.in-Some.entry) t.0) in
    pushed c.in-Some.name c.from_string.result c.bytes.result.now c.in-Some.entry c.loop-name.all.items c.push.new.self.items c.loop-name.yielded utf8 c.bytes.ensures (λ u. c.from_string.ensures ∙ c.in_ok-path.ensures.ok u) c.loop-name.invariant c.in_ok-push.ensures.items
