-- Desks that were opened for sources and sinks.
use Rattle.std.specs.Prelude.{◌≡◌, ◌≢◌, ◌⊎◌, ◌++◌, List, [], ◌∷◌, All, map, length, take, Option, None}
use Rattle.sessions.specs.declared.shared.Shared.{Shared}
use Rattle.sessions.specs.declared.desk.Desk.{Desk}
use Rattle.sessions.specs.declared.desk.Outcome.{Outcome}
use Rattle.sessions.specs.Desks.{IsFresh}

module _ {S K : Type 0} where
  abbrev pub source_at : Desk S K → S
  source_at d = d.source

  abbrev pub sink_at : Desk S K → K
  sink_at d = d.sink

  abbrev pub outcome_at : Desk S K → Option Outcome
  outcome_at d = d.outcome

  -- the desk was attended to its end
  abbrev pub HasOutcome : Desk S K → Type 0
  HasOutcome d = d.outcome ≢ None

  -- a fresh desk of each of the first of the sources and its sink, in order; the other sinks are kept back
  pub record AreSeated (sh : Shared) (sources : List S) (sinks : List K) (desks : List (Desk S K)) (back : List K) : Type 0 where
    pub fresh : All (IsFresh sh) desks
    pub sources_of : map source_at desks ≡ take (length desks) sources
    pub sinks_of : map sink_at desks ++ back ≡ sinks

  -- a fresh desk of the two was put behind the others; or the sink was kept back, as all are once one was
  abbrev pub IsNext : Shared → S → K → List (Desk S K) → List K → List (Desk S K) → List K → Type 0
  IsNext sh source sink desks back desks_after back_after =
      ((d : Desk S K) × (back ≡ []) × (back_after ≡ []) × (desks_after ≡ desks ++ d ∷ []) × IsFresh sh d × (d.source ≡ source) × (d.sink ≡ sink))
      ⊎ ((back_after ≡ back ++ sink ∷ []) × (desks_after ≡ desks))
