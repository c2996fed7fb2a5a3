-- What a session comes to, by its ending.
use Rattle.std.proofs.Common.{◌≡◌, ℕ, List, [], refl, Option, None, Some, Bool, true, false, arith, ◌⊎◌, inl, inr}
use Rattle.std.specs.Option.{IfSome}
use Rattle.etp_io.specs.Causes.{Rose}
use Rattle.etp_io.proofs.CallLemmas.{Appends-none, IsPrefix-all, Loses-none}
use Rattle.etp_serving.specs.Protocols.{Protocol}
use Rattle.etp_serving.specs.Streams.{Streams}
use Rattle.etp_serving.specs.Sessions.{Begins, in_lines, items_of}
use Rattle.etp_serving.specs.Ends.{EndsWell, WritesPrefix, TakesWithin}
use Rattle.etp_serving.specs.Endings.{IsDone, IsEnd, status_of}
use Rattle.etp_serving.specs.SessionEnds.{SessionEnds, EndsAtFault, EndsAtName, EndsPastLimit, EndsAtLong, LeavesShelf}
use Rattle.etp_serving.specs.declared.serving.Ending.{Ending}
use Rattle.etp_serving.specs.declared.serving.Ending.TheVariants.{Done, ReadFault, WriteFault, NoMemory, TooMuch}
use Rattle.etp_serving.proofs.Taking.{rises-by_none}

-- all was read, and the whole text was written; `refused`: with a refusal line in it
abbrev EndsAll : {H : Type 0} → Protocol → Streams H → Streams H → Bool → Type 0
EndsAll p old new refused = EndsWell p old.source.left new.source.left old.sink.took new.sink.took new.source.last refused

-- a prefix of the text was written
abbrev EndsCut : {H : Type 0} → Protocol → Streams H → Streams H → Type 0
EndsCut p old new = WritesPrefix p old.source.left old.sink.took new.sink.took

-- at most as many bytes as the limit were taken of the source
abbrev EndsWithin : {H : Type 0} → Protocol → Streams H → Streams H → Type 0
EndsWithin p old new = TakesWithin old.source.left new.source.left old.source.given new.source.given p.shelf.limit

-- what holds at an ending
abbrev pub EndsSo : {H : Type 0} → Protocol → Streams H → Streams H → Ending → Type 0
EndsSo p old new (Done bad) = EndsAll p old new bad × EndsWithin p old new
EndsSo p old new ReadFault = (EndsAtFault p old new ⊎ EndsAtName p old new) × EndsWithin p old new
EndsSo p old new WriteFault = Rose old.sink.faults new.sink.faults × EndsCut p old new × EndsWithin p old new
EndsSo p old new NoMemory = EndsCut p old new × EndsWithin p old new
EndsSo p old new TooMuch = EndsPastLimit p old new ⊎ EndsAtLong p old new

-- the status of an ending says it
pub session-ends : {H : Type 0} (p : Protocol) (old new : Streams H) (r : Ending) → EndsSo p old new r → new.shelf.keeps ≡ old.shelf.keeps → LeavesShelf p old new
    → SessionEnds p old new (status_of r)
session-ends p old new (Done false) h k u = record {
  well = λ _. h.0;
  refused = λ e. absurd (cc);
  read = λ e. absurd (cc);
  write = λ e. absurd (cc);
  memory = λ e. absurd (cc);
  too_much = λ e. absurd (cc);
  within = λ _. h.1;
  keeps = k;
  untouched = u;
  statuses = (omega arith, λ e. cc);
}
session-ends p old new (Done true) h k u = record {
  well = λ e. absurd (cc);
  refused = λ _. h.0;
  read = λ e. absurd (cc);
  write = λ e. absurd (cc);
  memory = λ e. absurd (cc);
  too_much = λ e. absurd (cc);
  within = λ _. h.1;
  keeps = k;
  untouched = u;
  statuses = (omega arith, λ e. cc);
}
session-ends p old new ReadFault h k u = record {
  well = λ e. absurd (cc);
  refused = λ e. absurd (cc);
  read = λ _. h.0;
  write = λ e. absurd (cc);
  memory = λ e. absurd (cc);
  too_much = λ e. absurd (cc);
  within = λ _. h.1;
  keeps = k;
  untouched = u;
  statuses = (omega arith, λ e. cc);
}
session-ends p old new WriteFault h k u = record {
  well = λ e. absurd (cc);
  refused = λ e. absurd (cc);
  read = λ e. absurd (cc);
  write = λ _. (h.0, h.1);
  memory = λ e. absurd (cc);
  too_much = λ e. absurd (cc);
  within = λ _. h.2;
  keeps = k;
  untouched = u;
  statuses = (omega arith, λ e. cc);
}
session-ends p old new NoMemory h k u = record {
  well = λ e. absurd (cc);
  refused = λ e. absurd (cc);
  read = λ e. absurd (cc);
  write = λ e. absurd (cc);
  memory = λ _. h.0;
  too_much = λ e. absurd (cc);
  within = λ _. h.1;
  keeps = k;
  untouched = u;
  statuses = (omega arith, λ e. cc);
}
session-ends p old new TooMuch h k u = record {
  well = λ e. absurd (cc);
  refused = λ e. absurd (cc);
  read = λ e. absurd (cc);
  write = λ e. absurd (cc);
  memory = λ e. absurd (cc);
  too_much = λ _. h;
  within = λ n. absurd (n refl);
  keeps = k;
  untouched = u;
  statuses = (omega arith, λ e. cc);
}

-- an end that the reply at the end of the source comes to
close-so : {H : Type 0} (p : Protocol) (old new : Streams H) (r : Ending) → IsEnd r → IsDone r (EndsAll p old new) → (r ≡ NoMemory → EndsCut p old new)
    → (r ≡ WriteFault → Rose old.sink.faults new.sink.faults × EndsCut p old new) → EndsWithin p old new → EndsSo p old new r
close-so p old new (Done bad) h d m w t = (d, t)
close-so p old new ReadFault h d m w t = absurd h
close-so p old new WriteFault h d m w t = let said = w refl in (said.0, said.1, t)
close-so p old new NoMemory h d m w t = (m refl, t)
close-so p old new TooMuch h d m w t = absurd h

pub close-ends : {H : Type 0} (p : Protocol) (old new : Streams H) (r : Ending) → IsEnd r → IsDone r (EndsAll p old new) → (r ≡ NoMemory → EndsCut p old new)
    → (r ≡ WriteFault → Rose old.sink.faults new.sink.faults × EndsCut p old new) → EndsWithin p old new
    → new.shelf.keeps ≡ old.shelf.keeps → LeavesShelf p old new → SessionEnds p old new (status_of r)
close-ends p old new r h d m w t k u = session-ends p old new r (close-so p old new r h d m w t) k u

-- an end before a reply was written
early-so : {H : Type 0} (p : Protocol) (old new : Streams H) (r : Ending) → (r ≡ NoMemory) ⊎ ((r ≡ ReadFault) ⊎ (r ≡ TooMuch)) → EndsCut p old new
    → (r ≡ ReadFault → EndsAtName p old new) → (r ≡ TooMuch → EndsAtLong p old new) → EndsWithin p old new → EndsSo p old new r
early-so p old new r (inl e) c f m t = rw e (c, t)
early-so p old new r (inr (inl e)) c f m t = rw e (inr (f e), t)
early-so p old new r (inr (inr e)) c f m t = rw e (inr (m e))

pub early-ends : {H : Type 0} (p : Protocol) (old new : Streams H) (r : Ending) → (r ≡ NoMemory) ⊎ ((r ≡ ReadFault) ⊎ (r ≡ TooMuch)) → EndsCut p old new
    → (r ≡ ReadFault → EndsAtName p old new) → (r ≡ TooMuch → EndsAtLong p old new) → EndsWithin p old new
    → new.shelf.keeps ≡ old.shelf.keeps → LeavesShelf p old new → SessionEnds p old new (status_of r)
early-ends p old new r h c f m t k u = session-ends p old new r (early-so p old new r h c f m t) k u

-- an end before anything was read
begins-none : (p : Protocol) (told : Option (List ℕ)) → IfSome told (λ bytes. Begins p bytes [])
begins-none p None = tt
begins-none p (Some bytes) = in_lines (record {
  done = [];
  left = items_of bytes;
  items = refl;
  text = [];
  refused = false;
  last = p.first;
  session = (refl, refl, refl);
  prefix = IsPrefix-all [];
})

pub ends-at_once : (p : Protocol) (told took : Option (List ℕ)) → WritesPrefix p told took took
ends-at_once p told took = record { text = []; written = Appends-none took; begins = begins-none p told }

pub takes-none : (limit : ℕ) (told : Option (List ℕ)) (given : ℕ) → TakesWithin told told given given limit
takes-none limit told given = record { count = 0; within = omega arith; takes = record { loses = Loses-none told; counted = rises-by_none given } }

-- what a close at the end gives, with the session before it
pub done-close : (r : Ending) (P Q : Bool → Type 0) → IsDone r P → ((bad : Bool) → P bad → Q bad) → IsDone r Q
done-close (Done bad) P Q h f = f bad h
done-close ReadFault P Q h f = tt
done-close WriteFault P Q h f = tt
done-close NoMemory P Q h f = tt
done-close TooMuch P Q h f = tt
