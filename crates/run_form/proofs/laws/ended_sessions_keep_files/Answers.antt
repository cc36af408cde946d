use Rattle.run_form.proofs.ServedEnds.{ended, kept}
use Rattle.run_form.proofs.laws.ended_sessions_keep_files.Goals as goal

pub returns : goal.returns
returns c = record {
  served = λ f m scripts told after h. ended f m scripts told after h;
  kept = λ f m scripts ends after h. kept f m (c.one_text.ensures f) scripts ends after h;
}
