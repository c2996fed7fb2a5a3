-- What a session wrote and read, where its source and its sink tell.
use Rattle.std.specs.Prelude.{◌≡◌, ℕ, ◌+◌, ◌-◌, ◌^◌, ◌≤◌, min, List, take, Bool, IfSome}
use Rattle.std.specs.declared.option.Option.{Option}
use Rattle.std.specs.Io.KnownBytes.{Appends, IsAtEnd}
use Rattle.etp_io.specs.Counts.{RisesBy}
use Rattle.etp_io.specs.Stream.{Loses}
use Rattle.etp_io.specs.Texts.{to_last_newline}
use Rattle.etp_reply.specs.Shelves.{IsTooLong}
use Rattle.etp_serving.specs.Protocols.{Protocol}
use Rattle.etp_serving.specs.Sessions.{IsWholeSession, AnswersLines, StopsAtLoad, Begins}

-- the whole text was written, and each name that a `load` reaches is there
pub record WritesAll (p : Protocol) (left took_before took_after : Option (List ℕ)) (refused : Bool) : Type 0 where
  pub text : List ℕ
  pub written : Appends took_before took_after text
  pub session : IfSome left (λ bytes. IsWholeSession p bytes text refused)

-- the whole text was written, and the source was read to its end
pub record EndsWell (p : Protocol) (left left_after took_before took_after : Option (List ℕ)) (last : ℕ) (refused : Bool) : Type 0 where
  pub writes : WritesAll p left took_before took_after refused
  pub at_end : IsAtEnd left_after
  pub last_gave : last ≡ 0

-- a prefix of the text was written
pub record WritesPrefix (p : Protocol) (left took_before took_after : Option (List ℕ)) : Type 0 where
  pub text : List ℕ
  pub written : Appends took_before took_after text
  pub begins : IfSome left (λ bytes. Begins p bytes text)

-- the text of those lines was written that stand whole, with their newlines, in the first n bytes
pub record WritesWholeLines (p : Protocol) (left took_before took_after : Option (List ℕ)) (n : ℕ) : Type 0 where
  pub text : List ℕ
  pub refused : Bool
  pub written : Appends took_before took_after text
  pub session : IfSome left (λ bytes. AnswersLines p (to_last_newline (take n bytes)) text refused)

-- exactly so many bytes were taken from the source
pub record Takes (left left_after : Option (List ℕ)) (given given_after n : ℕ) : Type 0 where
  pub loses : Loses left left_after n
  pub counted : RisesBy given given_after n

-- so many at most
pub record TakesWithin (left left_after : Option (List ℕ)) (given given_after limit : ℕ) : Type 0 where
  pub count : ℕ
  pub within : count ≤ limit
  pub takes : Takes left left_after given given_after count

-- a read failed after so many bytes, and what stands whole in them was answered
pub record StopsAtFault (p : Protocol) (left left_after took_before took_after : Option (List ℕ)) (given given_after : ℕ) : Type 0 where
  pub count : ℕ
  pub within : count ≤ p.shelf.limit
  pub takes : Takes left left_after given given_after count
  pub writes : WritesWholeLines p left took_before took_after count

-- the text was written of the lines before a `load`, whose line was taken and that reaches the shelf
-- for this name
pub record StopsAtName (p : Protocol) (left left_after took_before took_after : Option (List ℕ)) (given given_after : ℕ) (name : List ℕ) : Type 0 where
  pub count : ℕ
  pub within : count ≤ p.shelf.limit
  pub takes : Takes left left_after given given_after count
  pub text : List ℕ
  pub written : Appends took_before took_after text
  pub stops : IfSome left (λ bytes. StopsAtLoad p bytes count name text)

-- so it was before a `load` of a name with too many bytes, of which one more than the limit were
-- taken
pub record StopsAtLong (p : Protocol) (left left_after took_before took_after : Option (List ℕ)) (given given_after shelf_gave shelf_gave_after : ℕ) : Type 0 where
  pub name : List ℕ
  pub stops : StopsAtName p left left_after took_before took_after given given_after name
  pub long : IsTooLong p.shelf name
  pub risen : min (shelf_gave + (p.shelf.limit + 1)) (2 ^ 64 - 1) ≤ shelf_gave_after
