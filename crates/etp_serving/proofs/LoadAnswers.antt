-- What loading a file comes to.
use Rattle.std.proofs.Common.{◌≡◌, ℕ, ◌<◌, ◌≤◌, List, [], ◌∷◌, ◌++◌, length, Bool, sym, subst, append_assoc, append-nil}
use Rattle.std.proofs.lemmas.Option.{slice_get_within}
use Rattle.etp_io.specs.Texts.{LineText}
use Rattle.etp_print.specs.Texts.{Reply}
use Rattle.etp_desk.specs.States as States
use Rattle.etp_desk.specs.States.{State}
use Rattle.etp_desk.specs.declared.opened.Opened.{Opened}
use Rattle.etp_desk.specs.Desks.{opened_of}
use Rattle.etp_filing.specs.Filings.{IsFiling, loading, with_line}
use Rattle.etp_filing.specs.declared.filing.Filing.{Filing}
use Rattle.etp_reply.specs.Shelves.{KnownShelf, IsLoaded}
use Rattle.etp_reply.specs.Replies.{LoadReply}
use Rattle.etp_reply.specs.Given.{GivesState}
use Rattle.etp_reply.specs.Desks.{IsLoading}
use Rattle.etp_reply.specs.Outcomes.{LoadsFile}
use Rattle.etp_reply.specs.declared.desk.Desk.{Desk}
use Rattle.etp_reply.proofs.StateAnswers.{GivesState-map}
use Rattle.etp_serving.specs.Loads.{with_lines, LoadedLines}
use Rattle.etp_serving.proofs.ShelfReading.{TakesName}

-- a file that is read has taken these body lines
abbrev pub AddsLines : Filing → Filing → List LineText → Type 0
AddsLines first now lines = (o : Opened) (g : States.Filing) → IsFiling o first g → IsFiling o now (with_lines g lines)

pub adds-none : (f : Filing) → AddsLines f f []
adds-none f o g h = subst (λ (lines : List LineText). IsFiling o f (record { number = g.number; word = g.word; lines = lines })) (sym (append-nil g.lines)) h

pub adds-line : (first now then : Filing) (lines : List LineText) (line : LineText) → AddsLines first now lines
    → ((o : Opened) (f : States.Filing) → IsFiling o now f → IsFiling o then (with_line f line)) → AddsLines first then (lines ++ line ∷ [])
adds-line first now then lines line h taken o f p =
    subst (λ (ls : List LineText). IsFiling o then (record { number = f.number; word = f.word; lines = ls })) (append_assoc f.lines lines (line ∷ [])) (taken o (with_lines f lines) (h o f p))

pub loaded-lines : (s : KnownShelf) (name : List ℕ) (first now : Filing) → TakesName s name (AddsLines first now) → LoadedLines s name first now
loaded-lines s name first now h = record { lines = h.lines; loaded = h.loaded; pending = h.took }

-- the length of a name
pub loading-name : (d : Desk) (n : ℕ) (name : List ℕ) (lines : List LineText) (f : Filing) → IsLoading d n name lines f → (0 < length name) × (length name ≤ 64)
loading-name d n name lines f l = (slice_get_within name 0 l.free.is_name.first.0 l.free.is_name.first.1, l.free.is_name.short)

-- its lines were read
pub loading-lines : (s : KnownShelf) (d : Desk) (n : ℕ) (name : List ℕ) (f now : Filing) (h : LoadedLines s name f now) → IsLoading d n name [] f → IsLoading d n name h.lines now
loading-lines s d n name f now h l = record {
  opened = l.opened;
  stands = l.stands;
  no_body = l.no_body;
  free = l.free;
  pending = h.pending l.opened (loading n name []) l.pending;
}

-- its reply is one to the load
pub answers-loaded : (s : KnownShelf) (d : Desk) (n : ℕ) (name : List ℕ) (f now : Filing) (text : List ℕ) (flag : Bool) (IsAfter : State → Type 0) (h : LoadedLines s name f now)
    → ((lines : List LineText) (l : IsLoading d n name lines now) → IsLoaded s name lines → GivesState n text flag (LoadReply s (opened_of l.opened) n name) IsAfter)
    → (l : IsLoading d n name [] f) → GivesState n text flag (LoadReply s (opened_of l.opened) n name) IsAfter
unfolding loading-lines
answers-loaded s d n name f now text flag IsAfter h give l = give h.lines (loading-lines s d n name f now h l) h.loaded

-- what a line that loads a file tells
pub loads-ready : (s : KnownShelf) (n : ℕ) (name : List ℕ) (d : Desk) (f : Filing) (text : List ℕ) (P : Reply → State → Type 0) (L : List ℕ → Type 0)
    → LoadsFile s n name d f text P L → (text ≡ []) × IsLoading d n name [] f × L name
loads-ready s n name d f text P L h = (h.none_yet, h.loading, h.load)

-- the reply to the load is one to the line
pub replies-loaded : (s : KnownShelf) (n : ℕ) (name : List ℕ) (d : Desk) (f : Filing) (before text : List ℕ) (flag : Bool) (P : Reply → State → Type 0) (L : List ℕ → Type 0) (IsAfter : State → Type 0)
    → LoadsFile s n name d f before P L
    → ((m : ℕ) (l : IsLoading d m name [] f) → GivesState m text flag (LoadReply s (opened_of l.opened) m name) IsAfter)
    → GivesState n text flag P IsAfter
replies-loaded s n name d f before text flag P L IsAfter h give = GivesState-map n text flag (LoadReply s (opened_of h.loading.opened) n name) P IsAfter h.replies (give n h.loading)
