use Rattle.std.proofs.Common.{◌≤◌}
use Rattle.etp_tasks.proofs.ListingLemmas.{ListedSofar}
use Rattle.etp_tasks.proofs.listing.write_laws.Given as goal

abbrev pub invariant-listed : goal.invariant-listed
invariant-listed g l = ListedSofar (g.K.Sink.took l.fn.sink) (g.K.Sink.took l.sink) l.laws.equations l.text l.n
    × (g.K.Sink.faults l.fn.sink ≤ g.K.Sink.faults l.sink)
