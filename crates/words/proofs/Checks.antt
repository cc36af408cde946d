-- What the command takes, at words that are written out.
use Rattle.std.proofs.Common.{◌≡◌, true, List, [], ◌∷◌, Option, codes, refl, Some, None}
use Rattle.clap.specs.Words.{Text, is_simple}
use Rattle.clap.proofs.OnLiterals.{clap_on_literals}
use Rattle.words.specs.declared.request.Request.{Request}
use Rattle.words.specs.Command.{slicer_app}
use Rattle.words.specs.Asking.{asked}

pub simple : is_simple slicer_app ≡ true
unfolding slicer_app
simple = refl

abbrev pub request : Option Text → Text → List Text → Option Request
request main folder scripts = Some (record { main = main; folder = folder; scripts = scripts })

pub two_scripts : asked (codes "dir" ∷ codes "a" ∷ codes "b" ∷ []) ≡ request None (codes "dir") (codes "a" ∷ codes "b" ∷ [])
unfolding asked slicer_app clap_on_literals
two_scripts = refl

pub named : asked (codes "--main" ∷ codes "p.One" ∷ codes "dir" ∷ codes "a" ∷ []) ≡ request (Some (codes "p/One")) (codes "dir") (codes "a" ∷ [])
unfolding asked slicer_app clap_on_literals
named = refl

pub no_script : asked (codes "dir" ∷ []) ≡ None
unfolding asked slicer_app clap_on_literals
no_script = refl

pub help : asked (codes "--help" ∷ []) ≡ None
unfolding asked slicer_app clap_on_literals
help = refl

pub unknown : asked (codes "--other" ∷ codes "dir" ∷ codes "a" ∷ []) ≡ None
unfolding asked slicer_app clap_on_literals
unknown = refl

pub named_twice : asked (codes "--main" ∷ codes "A" ∷ codes "--main" ∷ codes "B" ∷ codes "dir" ∷ codes "a" ∷ []) ≡ None
unfolding asked slicer_app clap_on_literals
named_twice = refl
