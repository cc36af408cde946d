-- What words ask for: the crate `clap` defines which words the command takes, and what matches they then have.
use Rattle.std.specs.Prelude.{◌≡◌, List, [], ◌∷◌, Option, Some, None, codes}
use Rattle.std.specs.Option.{option_map}
use Rattle.clap.specs.Words.{Row, Text, first_of, all_of, first_value, found_of, matched_of, raw_values, matches_of, fault_of, Kinds}
use Rattle.clap.specs.declared.parser.matches.ArgMatches.{ArgMatches}
use Rattle.words.specs.declared.request.Request.{Request}
use Rattle.words.specs.Command.{slicer_app}
use Rattle.words.specs.Names.{with_slashes}
use Rattle.words.specs.Scripts.{AreScripts}

-- a request has a folder and scripts
abbrev pub asked_from : Option Text → Option Text → Option (List Text) → Option Request
asked_from main None scripts = None
asked_from main (Some folder) None = None
asked_from main (Some folder) (Some scripts) = Some (record { main = option_map with_slashes main; folder = folder; scripts = scripts })

-- what the matches of a parse say
abbrev pub read_of : ArgMatches → Option Request
read_of m = asked_from (first_value (found_of m) (codes "main")) (first_value (found_of m) (codes "folder")) (option_map raw_values (matched_of (found_of m) (codes "script")))

abbrev pub asked_by : List Row → Option Request
asked_by rows = asked_from (first_of (codes "main") rows) (first_of (codes "folder") rows) (all_of (codes "script") rows)

-- words are taken where the command finds no fault in them
abbrev pub asked_at : Kinds → List Row → Option Request
asked_at [] rows = asked_by rows
asked_at (k ∷ ks) rows = None

-- what the words ask for; none where the command doesn't take them
unfoldable pub asked : List Text → Option Request
asked words = asked_at (fault_of slicer_app words) (matches_of slicer_app words)

-- the words ask for this, and its scripts can be served
pub record IsAsked (words : List Text) (r : Request) : Type 0 where
  pub request : asked words ≡ Some r
  pub scripts : AreScripts r.scripts
