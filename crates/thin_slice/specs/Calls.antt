-- Calls of a walk, one after the other, between two starts.
use Rattle.std.specs.Prelude.{◌≡◌, true, List, All, AllPairs, Contains}
use Rattle.thin_slice.specs.declared.needs.Go.{Go}
use Rattle.thin_slice.specs.Needs.{is_need}

-- what was fetched before a call, each as the need that it answers, and what the call answered
pub record Call : Type 0 where
  pub fetched : List Go
  pub answer : Go

-- each call names only what wasn't fetched; what it names was fetched before the calls after it
pub record AreCalls (calls : List Call) : Type 0 where
  pub named : All (λ c. is_need c.answer ≡ true → Contains c.fetched c.answer → ⊥) calls
  pub fetched : AllPairs (λ a b. is_need a.answer ≡ true → Contains b.fetched a.answer) calls
