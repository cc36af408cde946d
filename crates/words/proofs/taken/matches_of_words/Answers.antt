use Rattle.std.proofs.Common.{◌≡◌, map, string_bytes, true, subst, IfOk}
use Rattle.clap.specs.Words.{App, FailsBy, HasMatchesOf, fault_of, is_simple_and_free}
use Rattle.words.proofs.Parses.{free, taken, untaken}
use Rattle.words.proofs.taken.matches_of_words.Goals as goal

pub returns-clause-taken : goal.returns-clause-taken
returns-clause-taken c =
    let words = map string_bytes c.args.words.now in
    let r = c.try_get_matches_from.result in
    let kinds = subst (λ (a : App). is_simple_and_free a ≡ true → FailsBy (fault_of a words) r) c.in_ok-command.ensures c.try_get_matches_from.ensures.kinds free in
    taken words r kinds (subst (λ (a : App). IfOk r (HasMatchesOf a words)) c.in_ok-command.ensures c.try_get_matches_from.ensures.matches)

pub returns-clause-untaken : goal.returns-clause-untaken
returns-clause-untaken c =
    let words = map string_bytes c.args.words.now in
    let r = c.try_get_matches_from.result in
    untaken words r (subst (λ (a : App). is_simple_and_free a ≡ true → FailsBy (fault_of a words) r) c.in_ok-command.ensures c.try_get_matches_from.ensures.kinds free)
