use Rattle.std.proofs.Common.{◌≡◌, ◌↔◌, Bool, IsTrue, Decides, ◌∙◌, sym}

-- an answer that a test gives holds exactly where the test decides
pub decided : {P : Type 0} (r s : Bool) → r ≡ s → Decides s P → IsTrue r ↔ P
decided r s e d = (λ h. d.0 (sym e ∙ h), λ h. e ∙ d.1 h)
