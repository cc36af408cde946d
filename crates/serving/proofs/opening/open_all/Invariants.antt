use Rattle.std.proofs.Common.{take}
use Rattle.folder_reader.specs.Hosts.{Goes, Keeps}
use Rattle.serving.specs.Ends.{AreOpened}
use Rattle.serving.proofs.opening.open_all.Given as goal

-- the scripts so far were opened
abbrev pub invariant-loop-script : goal.invariant-loop-script
invariant-loop-script g l =
    let host = g.H.Host in
    record {
      opened : AreOpened g.H.In.Source.left g.H.In.Source.steady (host.files l.initial.host) (host.source_steady l.initial.host) (take l.script-index l.scripts) l.opened.items;
      goes : Goes host.faults host.steady host.source_steady host.sink_steady l.initial.host l.host;
      keeps : Keeps host.files host.said l.initial.host l.host;
    }
