-- What is taken from desks, one after another.
use Rattle.std.proofs.Common.{◌≡◌, ◌<◌, ◌≤◌, ◌+◌, ◌++◌, ◌∷◌, [], ℕ, List, Option, Some, length, map, map-id, take, get_or, length-take, refl, sym, ap, ◌∙◌, append_assoc, append-nil, arith}
use Rattle.std.proofs.lemmas.List.{take_all}
use Rattle.sessions.specs.declared.desk.Desk.{Desk}
use Rattle.sessions.specs.declared.desk.Outcome.{Outcome}
use Rattle.serving.specs.Seated.{sink_at, outcome_at}
use Rattle.serving.proofs.Places.{take_next}
use Rattle.serving.proofs.SeatedDesks.{map_snoc, map_length}

abbrev pub some_of : Outcome → Option Outcome
some_of o = Some o

module _ {S K : Type 0} (desks : List (Desk S K)) (i : ℕ) (desk : Desk S K) (lt : i < length desks) (there : (d : Desk S K) → get_or desks i d ≡ desk) (outcomes : List Outcome) (so : map some_of outcomes ≡ map outcome_at (take i desks)) where
  pub outcome_next : (outcomes' : List Outcome) → (how : Outcome) × (desk.outcome ≡ Some how) × (outcomes' ≡ outcomes ++ how ∷ []) → map some_of outcomes' ≡ map outcome_at (take (i + 1) desks)
  outcome_next outcomes' (how, is, e) =
      ap (λ (os : List Outcome). map some_of os) e ∙ (map_snoc some_of outcomes how ∙ (ap (λ (os : List (Option Outcome)). os ++ Some how ∷ []) so ∙ (ap (λ (o : Option Outcome). map outcome_at (take i desks) ++ o ∷ []) (sym is)
      ∙ (sym (map_snoc outcome_at (take i desks) desk) ∙ ap (λ (ds : List (Desk S K)). map outcome_at ds) (sym (take_next desks i desk lt there))))))

  pub outcomes_many : length outcomes ≡ i
  outcomes_many = omega (arith, ap length so, map_length some_of outcomes, map_length outcome_at (take i desks), length-take i desks, lt)

module _ {S K : Type 0} (yielded : List (Desk S K)) (sinks : List K) (so : sinks ≡ map sink_at yielded) where
  pub sink_next : (desk : Desk S K) (sinks' : List K) → sinks' ≡ sinks ++ desk.sink ∷ [] → sinks' ≡ map sink_at (yielded ++ desk ∷ [])
  sink_next desk sinks' e = e ∙ (ap (λ (ks : List K). ks ++ desk.sink ∷ []) so ∙ sym (map_snoc sink_at yielded desk))

  pub sinks_many : length sinks ≡ length yielded
  sinks_many = ap length so ∙ map_length sink_at yielded

  pub sinks_all : (desks : List (Desk S K)) → map (λ y. y) yielded ≡ desks → sinks ≡ map sink_at desks
  sinks_all desks e = so ∙ ap (λ (ds : List (Desk S K)). map sink_at ds) (sym (map-id yielded) ∙ e)

module _ {K : Type 0} (before yielded all : List K) (so : all ≡ before ++ yielded) where
  pub item_next : (item : K) (all' : List K) → all' ≡ all ++ item ∷ [] → all' ≡ before ++ (yielded ++ item ∷ [])
  item_next item all' e = e ∙ (ap (λ (ks : List K). ks ++ item ∷ []) so ∙ append_assoc before yielded (item ∷ []))

  pub items_all : (items : List K) → map (λ y. y) yielded ≡ items → all ≡ before ++ items
  items_all items e = so ∙ ap (λ (ks : List K). before ++ ks) (sym (map-id yielded) ∙ e)
