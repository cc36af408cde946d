-- What a parse of the command shows of the words.
use Rattle.std.proofs.Common.{◌≡◌, ◌⊎◌, List, [], ◌∷◌, Option, None, Result, Ok, Err, IfOk, IfErr, codes, refl, sym, ap, ◌∙◌, true, inl, inr}
use Rattle.clap.specs.Words.{Row, Text, HasMatchesOf, FailsBy, IsAmong, Kinds, fault_of, matches_of, rows_of, found_of, kind_of, is_simple_and_free}
use Rattle.clap.specs.declared.error.Error.{Error}
use Rattle.clap.specs.declared.error.kind.ErrorKind.{ErrorKind}
use Rattle.clap.specs.declared.error.kind.ErrorKind.TheVariants.{OutOfMemory}
use Rattle.clap.specs.declared.parser.matches.ArgMatches.{ArgMatches}
use Rattle.clap.proofs.WalkLemmas.{first_value-rows, raw_values-rows}
use Rattle.words.specs.Command.{slicer_app}
use Rattle.words.specs.Asking.{asked, asked_at, asked_by, asked_from, read_of}
use Rattle.words.proofs.Checks.{simple}

pub free : is_simple_and_free slicer_app ≡ true
unfolding slicer_app
free = refl

nothing : (ks : Kinds) (rows : List Row) (k : ErrorKind) → IsAmong k ks → asked_at ks rows ≡ None
nothing [] rows k h = absurd h
nothing (x ∷ xs) rows k h = refl

pub from_same : (a b c d : Option Text) (e f : Option (List Text)) → a ≡ b → c ≡ d → e ≡ f → asked_from a c e ≡ asked_from b d f
from_same a b c d e f p q r = ap (λ (x : Option Text). asked_from x c e) p ∙ (ap (λ (y : Option Text). asked_from b y e) q ∙ ap (λ (z : Option (List Text)). asked_from b d z) r)

read_rows : (m : ArgMatches) → asked_by (rows_of (found_of m)) ≡ read_of m
read_rows m = sym (from_same _ _ _ _ _ _ (first_value-rows (found_of m) (codes "main")) (first_value-rows (found_of m) (codes "folder")) (raw_values-rows (found_of m) (codes "script")))

pub taken : (words : List Text) (r : Result ArgMatches Error) → FailsBy (fault_of slicer_app words) r → IfOk r (HasMatchesOf slicer_app words) → IfOk r (λ m. asked words ≡ read_of m)
unfolding asked
taken words (Ok m) none has = ap (λ (ks : Kinds). asked_at ks (matches_of slicer_app words)) none ∙ (ap (λ (rows : List Row). asked_by rows) (sym (has simple).0) ∙ read_rows m)
taken words (Err e) none has = tt

pub untaken : (words : List Text) (r : Result ArgMatches Error) → FailsBy (fault_of slicer_app words) r → IfErr r (λ e. (kind_of e ≡ OutOfMemory) ⊎ (asked words ≡ None))
unfolding asked
untaken words (Ok m) none = tt
untaken words (Err e) has = elim has [ inl memory ↦ inl memory | inr among ↦ inr (nothing (fault_of slicer_app words) (matches_of slicer_app words) (kind_of e) among) ]
