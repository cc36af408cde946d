use Rattle.gates.specs.Gates.{IsWritten}
use Rattle.gates.proofs.Written.{otherwise}
use Rattle.gates.proofs.host.GateHost.written.Goals as goal

pub returns-in-None : goal.returns-in-None
returns-in-None c =
    otherwise (λ x. x.now) (λ b. IsWritten c.args.self.now.one c.args.label.now b) (λ b. IsWritten c.args.self.now.other c.args.label.now b) c.written_to-in-None.result c.in-None.ensures c.written_to-in-None.ensures
