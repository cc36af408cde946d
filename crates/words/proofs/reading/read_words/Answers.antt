use Rattle.std.proofs.Common.{◌↔◌, IsTrue, List, ℕ, map, string_bytes, subst}
use Rattle.words.specs.Scripts.{AreScripts}
use Rattle.words.proofs.Wanted.{unfit}
use Rattle.words.proofs.reading.read_words.Goals as goal

pub returns : goal.returns
returns c = record {
  asked = tt;
  usage = λ e. unfit (map string_bytes c.args.words.now) c.in-Ok.matches c.in_ok-request.request c.are_scripts.result c.in-Ok.ensures.taken c.in_ok-request.ensures.asked
      (subst (λ (xs : List (List ℕ)). IsTrue c.are_scripts.result ↔ AreScripts xs) c.items.ensures c.are_scripts.ensures) c.if-are_scripts.false;
}
