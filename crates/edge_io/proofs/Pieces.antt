-- Pieces of a text, one after another.
use Rattle.std.proofs.Common.{◌≡◌, ◌≤◌, ℕ, ◌+◌, List, ◌++◌, length, take, drop, min, Option, Some, None, IfSome, ◌↔◌, refl, sym, ap, subst, length-append, length-drop, take_all, [], ◌∙◌, append_assoc, arith}
use Rattle.std.specs.Option.{option_map}
use Rattle.edge_io.specs.Reads.{appended}
use Rattle.std.proofs.Math.Seq.{take-add}
use Rattle.std.proofs.lemmas.List.{drop-drop, nil_from_length, append-nil}

-- what was written after one piece more
pub written_more : (bytes : List ℕ) (at n : ℕ) (before now after : Option (List ℕ)) → now ≡ appended (take at bytes) before
    → after ≡ appended (take n (drop at bytes)) now → after ≡ appended (take (at + n) bytes) before
written_more bytes at n None now after p q = q ∙ ap (λ (o : Option (List ℕ)). appended (take n (drop at bytes)) o) p
written_more bytes at n (Some w) now after p q =
    q ∙ (ap (λ (o : Option (List ℕ)). appended (take n (drop at bytes)) o) p
    ∙ ap (λ (t : List ℕ). Some t) (append_assoc w (take at bytes) (take n (drop at bytes)) ∙ ap (λ (t : List ℕ). w ++ t) (sym (take-add at n bytes))))

-- what is left after one piece more
pub left_more : (k n : ℕ) (before now after : Option (List ℕ)) → now ≡ option_map (drop k) before → after ≡ option_map (drop n) now
    → after ≡ option_map (drop (k + n)) before
left_more k n None now after p q = q ∙ ap (λ o. option_map (drop n) o) p
left_more k n (Some left) now after p q = q ∙ (ap (λ o. option_map (drop n) o) p ∙ ap (λ (t : List ℕ). Some t) (drop-drop n k left))

-- what one call of a source gave: a piece of n bytes of what was left, none only where none was left
abbrev pub Gave : List ℕ → ℕ → Option (List ℕ) → Type 0
Gave piece n now = IfSome now (λ left. (piece ≡ take (length piece) left) × ((n ≡ 0) ↔ (left ≡ [])))

-- what was read, where one piece more was read
pub read_more : (bytes piece : List ℕ) (n : ℕ) (before now : Option (List ℕ)) → now ≡ option_map (drop (length bytes)) before
    → IfSome before (λ all. bytes ≡ take (length bytes) all) → Gave piece n now
    → IfSome before (λ all. bytes ++ piece ≡ take (length (bytes ++ piece)) all)
read_more bytes piece n None now p q r = tt
read_more bytes piece n (Some all) now p q r =
    let h : piece ≡ take (length piece) (drop (length bytes) all) = (subst (λ (o : Option (List ℕ)). Gave piece n o) p r).0 in
    ap (λ (t : List ℕ). bytes ++ t) h ∙ (ap (λ (t : List ℕ). t ++ take (length piece) (drop (length bytes) all)) q
    ∙ (sym (take-add (length bytes) (length piece) all) ∙ ap (λ (k : ℕ). take k all) (sym (length-append bytes piece))))

-- where nothing is left, all was read
pub all_read : (bytes piece : List ℕ) (limit n : ℕ) (before now : Option (List ℕ)) → now ≡ option_map (drop (length bytes)) before
    → IfSome before (λ all. bytes ≡ take (length bytes) all) → length bytes ≤ limit → Gave piece n now → n ≡ 0 → length piece ≡ n
    → IfSome before (λ all. bytes ++ piece ≡ take limit all)
all_read bytes piece limit n None now p q small r none empty = tt
all_read bytes piece limit n (Some all) now p q small r none empty =
    let gone : drop (length bytes) all ≡ [] = (subst (λ (o : Option (List ℕ)). Gave piece n o) p r).1.0 none in
    let short : length all ≤ length bytes = omega (arith, length-drop (length bytes) all, ap (λ (t : List ℕ). length t) gone) in
    ap (λ (t : List ℕ). bytes ++ t) (nil_from_length piece (empty ∙ none)) ∙ (append-nil bytes ∙ (q ∙ (take_all (length bytes) all short ∙ sym (take_all limit all (omega arith)))))

-- how long the bytes are after one piece more
pub longer : (bytes piece after : List ℕ) (n : ℕ) → after ≡ bytes ++ piece → length piece ≡ n → length after ≡ length bytes + n
longer bytes piece after n p q = ap (λ (t : List ℕ). length t) p ∙ (length-append bytes piece ∙ ap (λ (k : ℕ). length bytes + k) q)
