-- What the matches ask for.
use Rattle.std.proofs.Common.{◌≡◌, ◌≢◌, ◌⊎◌, ◌↔◌, Bool, false, IsTrue, List, Option, Some, None, codes, refl, sym, ap, ◌∙◌, subst, inl, inr, unwrap_or}
use Rattle.std.specs.Option.{option_map}
use Rattle.std.specs.Borrow.{Bor}
use Rattle.clap.specs.Words.{Text, found_of, first_value, raw_values, matched_of, kind_of}
use Rattle.clap.specs.Walk.{texts}
use Rattle.clap.specs.declared.error.Error.{Error}
use Rattle.clap.specs.declared.error.kind.ErrorKind.TheVariants.{OutOfMemory}
use Rattle.clap.specs.declared.parser.matches.ArgMatches.{ArgMatches}
use Rattle.words.specs.declared.request.Request.{Request}
use Rattle.words.specs.declared.request.WordsError.{WordsError}
use Rattle.words.specs.declared.request.WordsError.TheVariants.{Usage}
use Rattle.words.specs.Names.{with_slashes}
use Rattle.words.specs.Scripts.{AreScripts}
use Rattle.words.specs.Asking.{IsAsked, asked, asked_from, read_of}
use Rattle.words.proofs.Parses.{from_same}

some_is : {A : Type 0} (x y : A) → Some x ≡ Some y → x ≡ y
some_is {A} x y e = ap (λ (o : Option A). unwrap_or o x) e

told : Option Text → Text → List Text → Option Request
told main folder scripts = Some (record { main = main; folder = folder; scripts = scripts })

parts : (r : Request) (main : Option Text) (folder : Text) (scripts : List Text) → r.main ≡ main → r.folder ≡ folder → r.scripts ≡ scripts → told main folder scripts ≡ Some r
unfolding told
parts r main folder scripts p q s =
    sym (ap (λ (x : Option Text). told x r.folder r.scripts) p ∙ (ap (λ (y : Text). told main y r.scripts) q ∙ ap (λ (z : List Text). told main folder z) s))

slashes : (main : Option (Bor Text)) → option_map with_slashes (option_map (λ s. s.now) main) ≡ option_map (λ s. with_slashes s.now) main
slashes None = refl
slashes (Some s) = refl

-- the request of matches that have a folder and scripts
pub read_is : (m : ArgMatches) (main folder : Option (Bor Text)) (scripts : Option (Bor (List (Bor Text)))) (f : Bor Text) (s : Bor (List (Bor Text))) (r : Request)
    → option_map (λ x. x.now) main ≡ first_value (found_of m) (codes "main") → option_map (λ x. x.now) folder ≡ first_value (found_of m) (codes "folder")
    → option_map (λ x. texts x.now) scripts ≡ option_map raw_values (matched_of (found_of m) (codes "script")) → folder ≡ Some f → scripts ≡ Some s
    → r.main ≡ option_map (λ x. with_slashes x.now) main → r.folder ≡ f.now → r.scripts ≡ texts s.now → read_of m ≡ Some r
unfolding told
read_is m main folder scripts f s r is_main is_folder is_scripts some_f some_s p q t =
    from_same _ (option_map (λ (x : Bor Text). x.now) main) _ (Some f.now) _ (Some (texts s.now)) (sym is_main)
    (sym is_folder ∙ ap (λ (o : Option (Bor Text)). option_map (λ (x : Bor Text). x.now) o) some_f)
    (sym is_scripts ∙ ap (λ (o : Option (Bor (List (Bor Text)))). option_map (λ (x : Bor (List (Bor Text))). texts x.now) o) some_s)
    ∙ parts r (option_map with_slashes (option_map (λ (x : Bor Text). x.now) main)) f.now (texts s.now) (p ∙ sym (slashes main)) q t

pub no_folder : (m : ArgMatches) (folder : Option (Bor Text)) → option_map (λ x. x.now) folder ≡ first_value (found_of m) (codes "folder") → folder ≡ None → read_of m ≡ None
no_folder m folder is none =
    from_same _ (first_value (found_of m) (codes "main")) _ None _ (option_map raw_values (matched_of (found_of m) (codes "script"))) refl (sym is ∙ ap (λ (o : Option (Bor Text)). option_map (λ (x : Bor Text). x.now) o) none) refl

without : (main folder : Option Text) → asked_from main folder None ≡ None
without main None = refl
without main (Some folder) = refl

pub no_scripts : (m : ArgMatches) (scripts : Option (Bor (List (Bor Text)))) → option_map (λ x. texts x.now) scripts ≡ option_map raw_values (matched_of (found_of m) (codes "script"))
    → scripts ≡ None → read_of m ≡ None
no_scripts m scripts is none =
    from_same _ (first_value (found_of m) (codes "main")) _ (first_value (found_of m) (codes "folder")) _ None refl refl (sym is ∙ ap (λ (o : Option (Bor (List (Bor Text)))). option_map (λ (x : Bor (List (Bor Text))). texts x.now) o) none)
    ∙ without (first_value (found_of m) (codes "main")) (first_value (found_of m) (codes "folder"))

-- where the words ask for nothing, there is no request
pub nothing_asked : (words : List Text) → asked words ≡ None → (r : Request) → IsAsked words r → ⊥
nothing_asked words none r a = let bad : None ≡ Some r = sym none ∙ a.request in cc

-- an error of the parse that is usage here
pub not_taken : (words : List Text) (e : Error) (w : WordsError) → (kind_of e ≡ OutOfMemory) ⊎ (asked words ≡ None) → (w ≡ Usage → kind_of e ≢ OutOfMemory) → w ≡ Usage
    → (r : Request) → IsAsked words r → ⊥
not_taken words e w why other is r a = elim why [ inl memory ↦ other is memory | inr none ↦ nothing_asked words none r a ]

-- scripts that can't be served beside one another
pub unfit : (words : List Text) (m : ArgMatches) (request : Request) (fit : Bool) → asked words ≡ read_of m → read_of m ≡ Some request → IsTrue fit ↔ AreScripts request.scripts → fit ≡ false
    → (r : Request) → IsAsked words r → ⊥
unfit words m request fit is read same unlike r a =
    let one : request ≡ r = some_is request r (sym read ∙ sym is ∙ a.request) in
    let sure : IsTrue fit = same.1 (subst (λ (x : Request). AreScripts x.scripts) (sym one) a.scripts) in
    let bad : IsTrue false = subst IsTrue unlike sure in
    cc
