use Rattle.std.proofs.Common.{◌≡◌, ◌+◌, ◌-◌, ◌≤◌}
use Rattle.etp_reply.specs.Shelves.{known}
use Rattle.etp_reply.specs.Desks.{HasRightLaws, IsDesk}
use Rattle.etp_serving.specs.Protocols.{ledger_protocol}
use Rattle.etp_serving.proofs.Running.{Running, Untouched}
use Rattle.etp_serving.proofs.serving.serve_lines.Given as goal

abbrev pub invariant-served : goal.invariant-served
invariant-served g l = Running (ledger_protocol (known l.limit (g.H.Shelf.keeps l.fn.shelf))) (g.S.Source.left l.fn.source) (g.S.Source.left l.source) (g.S.Source.last l.source) (g.K.Sink.took l.fn.sink) (g.K.Sink.took l.sink)
    (g.S.Source.given l.fn.source) (g.S.Source.given l.source) l.lines l.refused (IsDesk l.desk)
    × HasRightLaws l.desk × (g.S.Source.faults l.fn.source ≤ g.S.Source.faults l.source) × (g.K.Sink.faults l.fn.sink ≤ g.K.Sink.faults l.sink)
    × (g.H.Shelf.faults l.fn.shelf ≤ g.H.Shelf.faults l.shelf) × (g.H.Shelf.given l.fn.shelf ≤ g.H.Shelf.given l.shelf) × (g.H.Shelf.keeps l.shelf ≡ g.H.Shelf.keeps l.fn.shelf)
    × Untouched (ledger_protocol (known l.limit (g.H.Shelf.keeps l.fn.shelf))) (g.S.Source.left l.fn.source) l.fn.shelf l.shelf

abbrev pub decreases-served : goal.decreases-served
decreases-served g l = l.limit + 1 - l.lines.number
