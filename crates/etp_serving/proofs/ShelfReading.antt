-- The lines of a name on the shelf, as they are read.
use Rattle.std.proofs.Common.{◌≡◌, ℕ, ◌+◌, ◌-◌, ◌≤◌, List, [], ◌∷◌, ◌++◌, length, drop, Option, None, Some, Bool, true, false, IsTrue, refl, sym, ◌∙◌, ap, subst, arith, append_assoc, append-nil}
use Rattle.std.proofs.lemmas.List.{length-drop}
use Rattle.std.specs.Option.{IfSome}
use Rattle.std.specs.Borrow.{Bor}
use Rattle.std.specs.Io.KnownBytes.{IsAtEnd, prepend_known}
use Rattle.etp_io.specs.Texts.{LineText, lines_of, to_last_newline}
use Rattle.etp_io.specs.Stream.{Loses}
use Rattle.etp_io.specs.Counts.{RisesBy}
use Rattle.etp_io.specs.Reader.{Reader, SaysTooMuch}
use Rattle.etp_io.specs.Shelves.{left_at, Lacks}
use Rattle.etp_io.specs.Answers.{FitsAt, GivesLines, PartGives, to_come, says}
use Rattle.etp_io.specs.declared.lines.Next.{Next}
use Rattle.etp_io.specs.declared.lines.Next.TheVariants.{End}
use Rattle.etp_io.proofs.CallLemmas.{Loses-none, lines_of-append}
use Rattle.etp_reading.specs.Reading.{given_text}
use Rattle.etp_reply.specs.Shelves.{KnownShelf, HasLines, IsLoaded}
use Rattle.etp_serving.specs.Ends.{Takes}
use Rattle.etp_serving.specs.Endings.{line_text}
use Rattle.etp_serving.proofs.Parts.{to_last_newline-both}
use Rattle.etp_serving.proofs.Taking.{takes-more, rises-by_none, no_part, at-end, says-line}

-- a part of the bytes has these body lines, and others are to come
pub record PartLines (ended : Bool) (bytes coming : List ℕ) (lines : List LineText) : Type 0 where
  pub part : List ℕ
  pub joined : bytes ≡ part ++ coming
  pub lines_are : lines ≡ lines_of part
  pub newline : ended ≡ false → to_last_newline part ≡ part
  pub over : IsTrue ended → coming ≡ []

abbrev pub KnownLines : Bool → Option (List ℕ) → Option (List ℕ) → List LineText → Type 0
KnownLines ended None coming lines = Unit {0}
KnownLines ended (Some bytes) None lines = ⊥
KnownLines ended (Some bytes) (Some coming) lines = PartLines ended bytes coming lines

-- A name is read, and its lines so far were taken: `HasTaken` says of lines that they were, by
-- whatever takes them.
pub record Loading (limit : ℕ) (keeps : Option (List ℕ → Option (List ℕ))) (name : List ℕ) (HasTaken : List LineText → Type 0) (given_before given : ℕ) (reader : Reader) : Type 0 where
  pub lines : List LineText
  pub took : HasTaken lines
  pub sofar : KnownLines reader.ended (left_at keeps name 0) (to_come reader (left_at keeps name reader.taken)) lines
  pub fits : FitsAt reader keeps name
  pub open_still : reader.fault ≡ None
  pub limited : reader.limit ≡ limit
  pub counted : reader.number ≤ reader.taken
  pub within : reader.taken ≤ limit
  pub takes : Takes (left_at keeps name 0) (left_at keeps name reader.taken) given_before given reader.taken

-- all lines of the name were taken
pub record TakesName (s : KnownShelf) (name : List ℕ) (HasTaken : List LineText → Type 0) : Type 0 where
  pub lines : List LineText
  pub loaded : IsLoaded s name lines
  pub took : HasTaken lines

pub starts-loading : (limit : ℕ) (keeps : Option (List ℕ → Option (List ℕ))) (name : List ℕ) (HasTaken : List LineText → Type 0) (given : ℕ) (reader : Reader)
    → HasTaken [] → reader ≡ record { limit = limit; taken = 0; number = 0; held = []; line = []; ended = false; fault = None }
    → Loading limit keeps name HasTaken given given reader
starts-loading limit keeps name HasTaken given reader none e = rw e (record {
  lines = [];
  took = none;
  sofar = known (left_at keeps name 0);
  fits = record { at_end = λ h. absurd (false_is_true h); lacking = λ h. (refl, refl) };
  open_still = refl;
  limited = refl;
  counted = omega arith;
  within = omega arith;
  takes = record { loses = Loses-none (left_at keeps name 0); counted = rises-by_none given };
})
  where
    false_is_true : false ≡ true → ⊥
    false_is_true e = cc

    known : (told : Option (List ℕ)) → KnownLines false told (prepend_known [] told) []
    known None = tt
    known (Some bytes) = record { part = []; joined = refl; lines_are = refl; newline = λ e. refl; over = λ h. absurd (false_is_true h) }

-- a line more
part-then : (ended ended' : Bool) (bytes coming coming' : List ℕ) (lines : List LineText) (line : LineText) → PartLines ended bytes coming lines → PartGives ended' coming coming' (line ∷ [])
    → PartLines ended' bytes coming' (lines ++ line ∷ [])
part-then true ended' bytes coming coming' lines line h g =
    let none : g.part ≡ [] = no_part g.part coming' (sym (h.over refl) ∙ g.joined) in
    let both : [] ≡ line ∷ [] = sym (ap lines_of none) ∙ g.lines in
    absurd (cc)
part-then false ended' bytes coming coming' lines line h g =
    let whole : to_last_newline h.part ≡ h.part = h.newline refl in
    let all : lines_of (h.part ++ g.part) ≡ lines_of h.part ++ line ∷ [] = lines_of-append h.part g.part whole ∙ ap (λ (l : List LineText). lines_of h.part ++ l) g.lines in
    record {
      part = h.part ++ g.part;
      joined = h.joined ∙ ap (λ (l : List ℕ). h.part ++ l) g.joined ∙ sym (append_assoc h.part g.part coming');
      lines_are = ap (λ (l : List LineText). l ++ line ∷ []) h.lines_are ∙ sym all;
      newline = λ open_still. to_last_newline-both h.part g.part whole (g.newline open_still);
      over = g.over;
    }

known-then : (ended ended' : Bool) (told coming coming' : Option (List ℕ)) (lines : List LineText) (line : LineText) → KnownLines ended told coming lines → GivesLines ended' coming coming' (line ∷ [])
    → KnownLines ended' told coming' (lines ++ line ∷ [])
known-then ended ended' None coming coming' lines line h g = tt
known-then ended ended' (Some bytes) None coming' lines line h g = absurd h
known-then ended ended' (Some bytes) (Some c) None lines line h g = absurd g
known-then ended ended' (Some bytes) (Some c) (Some d) lines line h g = part-then ended ended' bytes c d lines line h g

pub loading-then : (limit : ℕ) (keeps : Option (List ℕ → Option (List ℕ))) (name : List ℕ) (HasTaken HasNow : List LineText → Type 0) (g0 g g' : ℕ) (r r' : Reader) (next : Next) (line : Option (Bor (List ℕ)))
    → Loading limit keeps name HasTaken g0 g r
    → (FitsAt r keeps name → FitsAt r' keeps name)
    → (FitsAt r keeps name → GivesLines r'.ended (to_come r (left_at keeps name r.taken)) (to_come r' (left_at keeps name r'.taken)) (says next r'.line))
    → (next ≡ End → ⊥)
    → r'.number ≡ r.number + length (says next r'.line)
    → r'.fault ≡ None → SaysTooMuch r'.limit r'.taken r'.fault → r'.limit ≡ r.limit → r'.number ≤ r'.taken → r.taken ≤ r'.taken
    → Loses (left_at keeps name r.taken) (left_at keeps name r'.taken) (r'.taken - r.taken) → RisesBy g g' (r'.taken - r.taken)
    → given_text line ≡ line_text next r'.line
    → ((lines : List LineText) → HasTaken lines → HasNow (lines ++ given_text line ∷ []))
    → Loading limit keeps name HasNow g0 g' r'
loading-then limit keeps name HasTaken HasNow g0 g g' r r' next line h fits lines more number fault says_fault same_limit counted later loses given text taken =
    let one : says next r'.line ≡ line_text next r'.line ∷ [] = says-line next r'.line more in
    let within : r'.taken ≤ r'.limit = rw fault at says_fault in
    record {
      lines = h.lines ++ line_text next r'.line ∷ [];
      took = subst (λ (l : LineText). HasNow (h.lines ++ l ∷ [])) text (taken h.lines h.took);
      sofar = known-then r.ended r'.ended (left_at keeps name 0) (to_come r (left_at keeps name r.taken)) (to_come r' (left_at keeps name r'.taken)) h.lines (line_text next r'.line) h.sofar (rw one at (lines h.fits));
      fits = fits h.fits;
      open_still = fault;
      limited = same_limit ∙ h.limited;
      counted = counted;
      within = omega (arith, within, same_limit, h.limited);
      takes = takes-more (left_at keeps name 0) (left_at keeps name r.taken) (left_at keeps name r'.taken) g0 g g' r.taken r'.taken h.takes loses given later;
    }

-- it was read to its end
all-lines : (ended ended' : Bool) (bytes coming coming' : List ℕ) (lines : List LineText) → PartLines ended bytes coming lines → PartGives ended' coming coming' [] → coming' ≡ [] → lines ≡ lines_of bytes
all-lines true ended' bytes coming coming' lines h g a =
    let same : bytes ≡ h.part = h.joined ∙ ap (λ (l : List ℕ). h.part ++ l) (h.over refl) ∙ append-nil h.part in
    h.lines_are ∙ ap lines_of (sym same)
all-lines false ended' bytes coming coming' lines h g a =
    let rest : lines_of coming ≡ [] = ap lines_of (g.joined ∙ ap (λ (l : List ℕ). g.part ++ l) a ∙ append-nil g.part) ∙ g.lines in
    let all : lines_of bytes ≡ lines_of h.part = ap lines_of h.joined ∙ lines_of-append h.part coming (h.newline refl) ∙ rw rest (append-nil (lines_of h.part)) in
    h.lines_are ∙ sym all

-- so many bytes at most, and these lines
abbrev Has : ℕ → List LineText → List ℕ → Type 0
Has limit lines bytes = (length bytes ≤ limit) × (lines ≡ lines_of bytes)

known-all : (limit taken : ℕ) (ended ended' : Bool) (told coming coming' left : Option (List ℕ)) (lines : List LineText) → KnownLines ended told coming lines → GivesLines ended' coming coming' [] → IsAtEnd coming'
    → Loses told left taken → IsAtEnd left → taken ≤ limit → IfSome told (Has limit lines)
known-all limit taken ended ended' None coming coming' left lines h g a l b few = tt
known-all limit taken ended ended' (Some bytes) None coming' left lines h g a l b few = absurd h
known-all limit taken ended ended' (Some bytes) (Some c) None left lines h g a l b few = absurd g
known-all limit taken ended ended' (Some bytes) (Some c) (Some d) None lines h g a l b few = absurd l
known-all limit taken ended ended' (Some bytes) (Some c) (Some d) (Some left) lines h g a l b few =
    let none : length (drop taken bytes) ≡ 0 = ap (λ (x : List ℕ). length x) (sym l.0 ∙ b) in
    let size : length bytes - taken ≡ 0 = sym (length-drop taken bytes) ∙ none in
    (omega (arith, size, few), all-lines ended ended' bytes c d lines h g a)

-- the name is there where some read of it gave an answer
there-lines : (limit : ℕ) (keeps : Option (List ℕ → Option (List ℕ))) (name : List ℕ) (lines : List LineText) → (Lacks keeps name → ⊥) → IfSome (left_at keeps name 0) (Has limit lines)
    → IfSome keeps (λ kept. HasLines limit lines (kept name))
there-lines limit None name lines n h = tt
there-lines limit (Some kept) name lines n h = by (kept name) refl
  where
    by : (o : Option (List ℕ)) → kept name ≡ o → HasLines limit lines (kept name)
    by None e = absurd (n e)
    by (Some bytes) e = rw e (rw e at h)

pub loading-all : (s : KnownShelf) (name : List ℕ) (HasTaken : List LineText → Type 0) (g0 g : ℕ) (r r' : Reader)
    → Loading s.limit s.keeps name HasTaken g0 g r
    → (FitsAt r s.keeps name → FitsAt r' s.keeps name)
    → (FitsAt r s.keeps name → GivesLines r'.ended (to_come r (left_at s.keeps name r.taken)) (to_come r' (left_at s.keeps name r'.taken)) [])
    → r'.held ≡ [] → r'.ended ≡ true
    → r'.fault ≡ None → SaysTooMuch r'.limit r'.taken r'.fault → r'.limit ≡ r.limit → r.taken ≤ r'.taken
    → Loses (left_at s.keeps name r.taken) (left_at s.keeps name r'.taken) (r'.taken - r.taken)
    → (g' : ℕ) → RisesBy g g' (r'.taken - r.taken)
    → (FitsAt r s.keeps name → Lacks s.keeps name → ⊥)
    → TakesName s name HasTaken
loading-all s name HasTaken g0 g r r' h fits lines none ended fault says_fault same_limit later loses g' given there =
    let within : r'.taken ≤ r'.limit = rw fault at says_fault in
    let over : IsTrue r'.ended = ended in
    let left_none : IsAtEnd (left_at s.keeps name r'.taken) = (fits h.fits).at_end over in
    let takes : Takes (left_at s.keeps name 0) (left_at s.keeps name r'.taken) g0 g' r'.taken = takes-more (left_at s.keeps name 0) (left_at s.keeps name r.taken) (left_at s.keeps name r'.taken) g0 g g' r.taken r'.taken h.takes loses given later in
    record {
      lines = h.lines;
      loaded = there-lines s.limit s.keeps name h.lines (there h.fits)
          (known-all s.limit r'.taken r.ended r'.ended (left_at s.keeps name 0) (to_come r (left_at s.keeps name r.taken)) (to_come r' (left_at s.keeps name r'.taken)) (left_at s.keeps name r'.taken) h.lines h.sofar (lines h.fits)
          (rw none (at-end (left_at s.keeps name r'.taken) left_none)) takes.loses left_none (omega (arith, within, same_limit, h.limited)));
      took = h.took;
    }
