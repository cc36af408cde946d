-- Scripts that are served have one list of texts and xs many replies, whatever the facts of the program.
use Rattle.std.proofs.Common.{◌≡◌, ◌∷◌, ℕ, List, Option, Some, None, map, unwrap_or, refl, sym, ap, subst, ◌∙◌, zero, suc}
use Rattle.edge_io.specs.Files.{Files, HasFile, IsFile}
use Rattle.edge_io.specs.declared.host.Entry.{Entry}
use Rattle.edge_io.specs.declared.host.Entry.TheVariants.{Folder, File}
use Rattle.dep_form.specs.declared.facts.Facts.{Facts}
use Rattle.report.specs.Replies.{Answer}
use Rattle.session_form.specs.Scripts.{AreScriptReplies, IsScriptText}
use Rattle.run_form.specs.Said.{Ending, Done}
use Rattle.run_form.specs.Outputs.{AreServed, none, one, text_of, AreFiles, done_of}
use Rattle.run_form.proofs.AsMany.{replies_are_as_many}

abbrev bytes_in : List ℕ → Option Entry → List ℕ
bytes_in d None = d
bytes_in d (Some Folder) = d
bytes_in d (Some (File bytes)) = bytes

pub one_content : (m : Files) (path a b : List ℕ) → HasFile m path a → HasFile m path b → a ≡ b
one_content m path a b first second = ap (bytes_in a) (sym first ∙ second)

-- all facts give a script one text
abbrev pub HaveOneText : Facts → Facts → Type 0
HaveOneText f g = (script a b : List ℕ) → IsScriptText f script a → IsScriptText g script b → a ≡ b

-- each of the scripts that are served is a file
pub served_files : (f : Facts) (m : Files) (scripts : List (List ℕ)) (replies : List (List Answer)) → AreServed f m scripts replies → AreFiles m scripts
served_files f m _ _ none k script at = absurd (cc at)
served_files f m _ _ (one {script = x} {bytes} there are rest) zero script at = subst (λ (path : List ℕ). IsFile m path) (ap (λ (o : Option (List ℕ)). unwrap_or o x) at) (bytes, there)
served_files f m _ _ (one {scripts} {replies} there are rest) (suc k) script at = served_files f m scripts replies rest k script at

module _ (f g : Facts) (m : Files) (one_text : HaveOneText f g) where
  abbrev IsAlike : List (List Answer) → List (List Answer) → Type 0
  IsAlike rs qs = (map (text_of f) rs ≡ map (text_of g) qs) × (map done_of rs ≡ map done_of qs)

  texts_are : (x b c : List ℕ) (xs ys : List Answer) → HasFile m x b → HasFile m x c → AreScriptReplies f b xs → AreScriptReplies g c ys → (text_of f xs ≡ text_of g ys) × (done_of xs ≡ done_of ys)
  texts_are x b c xs ys here there first second =
      let same : c ≡ b = one_content m x c b there here in
      let also = subst (λ (s : List ℕ). AreScriptReplies g s ys) same second in
      (one_text b (text_of f xs) (text_of g ys) (xs, first, refl) (ys, also, refl), ap Done (replies_are_as_many f g b xs ys first also))

  pub one_serving : (scripts : List (List ℕ)) (rs qs : List (List Answer)) → AreServed f m scripts rs → AreServed g m scripts qs → IsAlike rs qs
  one_serving _ _ _ none none = (refl, refl)
  one_serving _ _ _ (one {script = x} {bytes = b} {scripts} {answers = xs} {replies = rs} here first rest) (one {bytes = c} {answers = ys} {replies = qs} there second more) =
      let now = texts_are x b c xs ys here there first second in
      let later = one_serving scripts rs qs rest more in
      let texts : map (text_of f) (xs ∷ rs) ≡ map (text_of g) (ys ∷ qs) = ap (λ (t : List ℕ). t ∷ map (text_of f) rs) now.0 ∙ ap (λ (ts : List (List ℕ)). text_of g ys ∷ ts) later.0 in
      let ends : map done_of (xs ∷ rs) ≡ map done_of (ys ∷ qs) = ap (λ (e : Ending). e ∷ map done_of rs) now.1 ∙ ap (λ (es : List Ending). done_of ys ∷ es) later.1 in
      (texts, ends)
