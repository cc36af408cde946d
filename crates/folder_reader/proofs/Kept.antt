-- What two steps after one another leave of a host.
use Rattle.std.proofs.Common.{ℕ, Bool, List, Option, ◌∙◌, arith}
use Rattle.edge_io.specs.Files.{Files}
use Rattle.folder_reader.specs.Hosts.{Goes, Keeps}

module _ {H : Type 0} where
  pub goes_then : (faults : H → ℕ) (steady : H → Bool) (sources sinks : H → List ℕ → Bool) (a b c : H) → Goes faults steady sources sinks a b → Goes faults steady sources sinks b c → Goes faults steady sources sinks a c
  goes_then faults steady sources sinks a b c f g = record {
    count = omega (arith, f.count, g.count);
    same_host = g.same_host ∙ f.same_host;
    same_sources = g.same_sources ∙ f.same_sources;
    same_sinks = g.same_sinks ∙ f.same_sinks;
  }

  pub keeps_then : (files : H → Option Files) (said : H → Option (List ℕ)) (a b c : H) → Keeps files said a b → Keeps files said b c → Keeps files said a c
  keeps_then files said a b c f g = record { same_files = g.same_files ∙ f.same_files; same_said = g.same_said ∙ f.same_said }
