use Rattle.class_form.proofs.Follow.{instructions_follow}
use Rattle.class_form.proofs.laws.instructions_follow.Goals as goal

pub returns : goal.returns
returns c = instructions_follow
