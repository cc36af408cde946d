-- What a reading of a folder leaves of its host, by the meanings of hosts.
use Rattle.std.specs.Prelude.{◌≡◌, ◌≤◌, ℕ, Bool, List, Option}
use Rattle.edge_io.specs.Files.{Files}

-- the count of faults did not fall, and what is steady stays so
pub record Goes {H : Type 0} (faults : H → ℕ) (steady : H → Bool) (sources sinks : H → List ℕ → Bool) (old new : H) : Type 0 where
  pub count : faults old ≤ faults new
  pub same_host : steady new ≡ steady old
  pub same_sources : sources new ≡ sources old
  pub same_sinks : sinks new ≡ sinks old

-- neither the files nor what was said changed
pub record Keeps {H : Type 0} (files : H → Option Files) (said : H → Option (List ℕ)) (old new : H) : Type 0 where
  pub same_files : files new ≡ files old
  pub same_said : said new ≡ said old
