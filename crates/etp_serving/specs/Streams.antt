-- What a source, a sink and a shelf tell.
use Rattle.std.specs.Prelude.{ℕ, List}
use Rattle.std.specs.declared.option.Option.{Option}
use Rattle.etp_io.specs.declared.outside.Source.{Ghosts as SourceOf}
use Rattle.etp_io.specs.declared.outside.Sink.{Ghosts as SinkOf}
use Rattle.etp_io.specs.declared.outside.Shelf.{Ghosts as ShelfOf}

-- the bytes that are left, how many were given in all and by the last call, and the faults
pub record SourceTells : Type 0 where
  pub left : Option (List ℕ)
  pub given : ℕ
  pub last : ℕ
  pub faults : ℕ

-- the bytes that were taken, and the faults
pub record SinkTells : Type 0 where
  pub took : Option (List ℕ)
  pub faults : ℕ

-- the bytes of each name, how many were given in all, the faults, and the name that failed last
pub record ShelfTells : Type 0 where
  pub keeps : Option (List ℕ → Option (List ℕ))
  pub given : ℕ
  pub faults : ℕ
  pub failed_name : List ℕ

-- what the three tell at one time, and the shelf itself
pub record Streams (H : Type 0) : Type 0 where
  pub source : SourceTells
  pub sink : SinkTells
  pub shelf : ShelfTells
  pub itself : H

abbrev pub streams : {S K H : Type 0} → SourceOf S → SinkOf K → ShelfOf H → S → K → H → Streams H
streams s k h source sink shelf = record {
  source = record {
    left = s.left source;
    given = s.given source;
    last = s.last source;
    faults = s.faults source;
  };
  sink = record { took = k.took sink; faults = k.faults sink };
  shelf = record {
    keeps = h.keeps shelf;
    given = h.given shelf;
    faults = h.faults shelf;
    failed_name = h.failed_name shelf;
  };
  itself = shelf;
}
