use Rattle.std.proofs.Common.{◌≡◌, ◌+◌, ◌-◌, ◌≤◌}
use Rattle.etp_serving.proofs.ShelfReading.{Loading}
use Rattle.etp_serving.proofs.LoadAnswers.{AddsLines}
use Rattle.etp_serving.proofs.loading.read_body.Given as goal

abbrev pub invariant-read : goal.invariant-read
invariant-read g l = Loading l.limit (g.H.Shelf.keeps l.fn.shelf) l.name (AddsLines l.fn.filing l.filing) (g.H.Shelf.given l.fn.shelf) (g.H.Shelf.given l.shelf) l.lines
    × (g.H.Shelf.faults l.fn.shelf ≤ g.H.Shelf.faults l.shelf) × (g.H.Shelf.given l.fn.shelf ≤ g.H.Shelf.given l.shelf) × (g.H.Shelf.keeps l.shelf ≡ g.H.Shelf.keeps l.fn.shelf)

abbrev pub decreases-read : goal.decreases-read
decreases-read g l = l.limit + 1 - l.lines.number
