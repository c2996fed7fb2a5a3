-- A session between two lines.
use Rattle.std.proofs.Common.{◌≡◌, ℕ, ◌+◌, ◌-◌, ◌≤◌, List, [], ◌∷◌, ◌++◌, length, length-append, take, drop, Option, None, Some, Bool, true, false, ◌||◌, IsTrue, refl, sym, ◌∙◌, ap, arith, append_assoc, append-nil, ◌⊎◌, inl, inr}
use Rattle.std.proofs.lemmas.List.{length-drop}
use Rattle.std.specs.Option.{IfSome}
use Rattle.std.specs.Io.KnownBytes.{Appends, IsAtEnd, prepend_known}
use Rattle.etp_io.specs.Texts.{LineText, lines_of, to_last_newline, NoNewline}
use Rattle.etp_io.specs.Stream.{IsPrefix, AppendsPrefix, Loses}
use Rattle.etp_io.specs.Counts.{RisesBy}
use Rattle.etp_io.specs.Reader.{Reader, SaysTooMuch}
use Rattle.etp_io.specs.Reads.{NoneBefore}
use Rattle.etp_io.specs.Answers.{Fits, GivesLines, PartGives, to_come, says}
use Rattle.etp_io.specs.declared.lines.Next.{Next}
use Rattle.etp_io.specs.declared.lines.Next.TheVariants.{End}
use Rattle.etp_io.proofs.CallLemmas.{Appends-then, Appends-none, IsPrefix-all, Loses-none, lines_of-append}
use Rattle.etp_serving.specs.Protocols.{Protocol}
use Rattle.etp_serving.specs.Sessions.{Item, Session, IsWholeSession, AnswersLines, StopsAtLoad, ReachesShelf, BeginsInLines, Begins, in_lines, at_end, items_from, items_of}
use Rattle.etp_serving.specs.Endings.{line_text, WritesNothing}
use Rattle.etp_serving.specs.Ends.{WritesPrefix, WritesWholeLines, EndsWell, Takes, TakesWithin, StopsAtFault, StopsAtName}
use Rattle.etp_serving.proofs.GivenTexts.{GivesLine, GivesEnd, ClosesText, ClosesSome}
use Rattle.etp_serving.proofs.Parts.{to_last_newline-both, to_last_newline-take}
use Rattle.etp_serving.proofs.Taking.{no_part, takes-more, rises-by_none, says-line, at-end}
use Rattle.etp_serving.proofs.SessionLemmas.{Session-then, items_from-append}

-- a part of the bytes was answered, with this text, and others are to come
pub record Sofar (p : Protocol) (ended : Bool) (number : ℕ) (bytes coming text : List ℕ) (bad : Bool) (state : p.State) : Type 0 where
  pub part : List ℕ
  pub joined : bytes ≡ part ++ coming
  pub counted : length (lines_of part) ≡ number
  pub newline : ended ≡ false → to_last_newline part ≡ part
  pub over : IsTrue ended → coming ≡ []
  pub session : Session p p.first (items_of part) text bad state

abbrev pub KnownSofar : (p : Protocol) → Bool → ℕ → Option (List ℕ) → Option (List ℕ) → List ℕ → Bool → p.State → Type 0
KnownSofar p ended number None coming text bad state = Unit {0}
KnownSofar p ended number (Some bytes) None text bad state = ⊥
KnownSofar p ended number (Some bytes) (Some coming) text bad state = Sofar p ended number bytes coming text bad state

pub record Running (p : Protocol) (told left : Option (List ℕ)) (last : ℕ) (took_before took : Option (List ℕ)) (given_before given : ℕ) (reader : Reader) (bad : Bool) (IsNow : p.State → Type 0) : Type 0 where
  pub text : List ℕ
  pub state : p.State
  pub stands : IsNow state
  pub written : Appends took_before took text
  pub sofar : KnownSofar p reader.ended reader.number told (to_come reader left) text bad state
  pub fits : Fits reader left last
  pub open_still : reader.fault ≡ None
  pub limited : reader.limit ≡ p.shelf.limit
  pub counted : reader.number ≤ reader.taken
  pub within : reader.taken ≤ p.shelf.limit
  pub takes : Takes told left given_before given reader.taken

-- a part with one line more
grown-items : (number : ℕ) (part more : List ℕ) (line : LineText) → to_last_newline part ≡ part → lines_of more ≡ line ∷ [] → number ≡ length (lines_of part) + 1
    → items_of (part ++ more) ≡ items_of part ++ record { number = number; line = line } ∷ []
grown-items number part more line whole one e =
    let lines : lines_of (part ++ more) ≡ lines_of part ++ line ∷ [] = lines_of-append part more whole ∙ ap (λ (l : List LineText). lines_of part ++ l) one in
    let counts : 1 + length (lines_of part) ≡ number = omega (arith, e) in
    ap (items_from 1) lines ∙ items_from-append 1 (lines_of part) (line ∷ []) ∙ ap (λ n. items_of part ++ items_from n (line ∷ [])) counts

-- the lines of all bytes begin with those of the part
all-items : (ended : Bool) (bytes part coming : List ℕ) → bytes ≡ part ++ coming → (ended ≡ false → to_last_newline part ≡ part) → (IsTrue ended → coming ≡ [])
    → (left : List Item) × (items_of bytes ≡ items_of part ++ left)
all-items true bytes part coming joined newline over =
    let all : bytes ≡ part = joined ∙ ap (λ (l : List ℕ). part ++ l) (over refl) ∙ append-nil part in
    ([], ap items_of all ∙ sym (append-nil (items_of part)))
all-items false bytes part coming joined newline over =
    let lines : lines_of bytes ≡ lines_of part ++ lines_of coming = ap lines_of joined ∙ lines_of-append part coming (newline refl) in
    (items_from (1 + length (lines_of part)) (lines_of coming), ap (items_from 1) lines ∙ items_from-append 1 (lines_of part) (lines_of coming))

-- a line was read
pub record HasLine (ended : Bool) (number : ℕ) (bytes coming before : List ℕ) (line : LineText) : Type 0 where
  pub part : List ℕ
  pub joined : bytes ≡ part ++ coming
  pub items : items_of part ≡ items_of before ++ record { number = number; line = line } ∷ []
  pub counted : length (lines_of part) ≡ number
  pub newline : ended ≡ false → to_last_newline part ≡ part
  pub over : IsTrue ended → coming ≡ []

line-read : (p : Protocol) (ended ended' : Bool) (number number' : ℕ) (bytes coming coming' text : List ℕ) (bad : Bool) (line : LineText) (state : p.State)
    → (h : Sofar p ended number bytes coming text bad state) → PartGives ended' coming coming' (line ∷ []) → number' ≡ number + 1
    → HasLine ended' number' bytes coming' h.part line
line-read p true ended' number number' bytes coming coming' text bad line state h g e =
    let none : g.part ≡ [] = no_part g.part coming' (sym (h.over refl) ∙ g.joined) in
    let lines : [] ≡ line ∷ [] = sym (ap lines_of none) ∙ g.lines in
    absurd (cc)
line-read p false ended' number number' bytes coming coming' text bad line state h g e =
    let whole : to_last_newline h.part ≡ h.part = h.newline refl in
    let lines : lines_of (h.part ++ g.part) ≡ lines_of h.part ++ line ∷ [] = lines_of-append h.part g.part whole ∙ ap (λ (l : List LineText). lines_of h.part ++ l) g.lines in
    record {
      part = h.part ++ g.part;
      joined = h.joined ∙ ap (λ (l : List ℕ). h.part ++ l) g.joined ∙ sym (append_assoc h.part g.part coming');
      items = grown-items number' h.part g.part line whole g.lines (omega (arith, h.counted, e));
      counted = ap (λ (l : List LineText). length l) lines ∙ length-append (lines_of h.part) (line ∷ []) ∙ ap (λ n. n + 1) h.counted ∙ sym e;
      newline = λ open_still. to_last_newline-both h.part g.part whole (g.newline open_still);
      over = g.over;
    }

-- a line was answered
line-then : (p : Protocol) (ended ended' : Bool) (number number' : ℕ) (bytes coming coming' text more : List ℕ) (bad also : Bool) (line : LineText) (state : p.State) (IsAfter : p.State → Type 0)
    → Sofar p ended number bytes coming text bad state → PartGives ended' coming coming' (line ∷ []) → number' ≡ number + 1
    → (r : GivesLine p state number' line more also IsAfter)
    → Sofar p ended' number' bytes coming' (text ++ more) (bad || also) r.after
line-then p ended ended' number number' bytes coming coming' text more bad also line state IsAfter h g e r =
    let item : Item = record { number = number'; line = line } in
    let read = line-read p ended ended' number number' bytes coming coming' text bad line state h g e in
    let grown : Session p p.first (items_of h.part ++ item ∷ []) (text ++ p.reply_text (p.answered_line state number') r.reply) (bad || p.is_refusal r.reply) r.after =
    Session-then p p.first state r.after (items_of h.part) item text bad r.reply h.session r.replies in
    record {
      part = read.part;
      joined = read.joined;
      counted = read.counted;
      newline = read.newline;
      over = read.over;
      session = rw (read.items, r.text_is, r.refused_is) grown;
    }

KnownSofar-then : (p : Protocol) (ended ended' : Bool) (number number' : ℕ) (told coming coming' : Option (List ℕ)) (text more : List ℕ) (bad also : Bool) (line : LineText) (state : p.State) (IsAfter : p.State → Type 0)
    → KnownSofar p ended number told coming text bad state → GivesLines ended' coming coming' (line ∷ []) → number' ≡ number + 1
    → (r : GivesLine p state number' line more also IsAfter)
    → KnownSofar p ended' number' told coming' (text ++ more) (bad || also) r.after
KnownSofar-then p ended ended' number number' None coming coming' text more bad also line state IsAfter h g e r = tt
KnownSofar-then p ended ended' number number' (Some bytes) None coming' text more bad also line state IsAfter h g e r = absurd h
KnownSofar-then p ended ended' number number' (Some bytes) (Some c) None text more bad also line state IsAfter h g e r = absurd g
KnownSofar-then p ended ended' number number' (Some bytes) (Some c) (Some d) text more bad also line state IsAfter h g e r =
    line-then p ended ended' number number' bytes c d text more bad also line state IsAfter h g e r

-- a line was read that loads a name, and the lines before it were answered
stops-line : (p : Protocol) (ended ended' : Bool) (number number' : ℕ) (bytes coming held left text : List ℕ) (bad : Bool) (line : LineText) (state : p.State) (taken : ℕ) (name : List ℕ)
    → Sofar p ended number bytes coming text bad state → PartGives ended' coming (held ++ left) (line ∷ []) → number' ≡ number + 1
    → left ≡ drop taken bytes → taken ≤ length bytes → p.Reaches state line name → StopsAtLoad p bytes taken name text
stops-line p ended ended' number number' bytes coming held left text bad line state taken name h g e lost many reach =
    let read = line-read p ended ended' number number' bytes coming (held ++ left) text bad line state h g e in
    let all = all-items ended' bytes read.part (held ++ left) read.joined read.newline read.over in
    let size : length bytes ≡ length read.part + (length held + length left) = ap (λ (l : List ℕ). length l) read.joined ∙ length-append read.part (held ++ left) ∙ ap (λ n. length read.part + n) (length-append held left) in
    let less : length left ≡ length bytes - taken = ap (λ (l : List ℕ). length l) lost ∙ length-drop taken bytes in
    record {
      done = items_of h.part;
      item = record { number = number'; line = line };
      left = all.0;
      items = all.1 ∙ ap (λ (l : List Item). l ++ all.0) read.items ∙ append_assoc (items_of h.part) (record { number = number'; line = line } ∷ []) all.0;
      part = read.part;
      rest = held ++ left;
      joined = read.joined;
      within = omega (arith, size, less, many);
      lines = read.items;
      refused = bad;
      last = state;
      session = h.session;
      reaches = reach;
    }

KnownSofar-name : (p : Protocol) (ended ended' : Bool) (number number' : ℕ) (told coming left : Option (List ℕ)) (held text : List ℕ) (bad : Bool) (line : LineText) (state : p.State) (taken : ℕ) (name : List ℕ)
    → KnownSofar p ended number told coming text bad state → GivesLines ended' coming (prepend_known held left) (line ∷ []) → number' ≡ number + 1
    → Loses told left taken → p.Reaches state line name → IfSome told (λ bytes. StopsAtLoad p bytes taken name text)
KnownSofar-name p ended ended' number number' None coming left held text bad line state taken name h g e l reach = tt
KnownSofar-name p ended ended' number number' (Some bytes) None left held text bad line state taken name h g e l reach = absurd h
KnownSofar-name p ended ended' number number' (Some bytes) (Some c) None held text bad line state taken name h g e l reach = absurd l
KnownSofar-name p ended ended' number number' (Some bytes) (Some c) (Some left) held text bad line state taken name h g e l reach =
    stops-line p ended ended' number number' bytes c held left text bad line state taken name h g e l.0 l.1 reach

-- it ends between two lines
begins : (p : Protocol) (ended : Bool) (number : ℕ) (bytes coming text : List ℕ) (bad : Bool) (state : p.State) → Sofar p ended number bytes coming text bad state → BeginsInLines p bytes text
begins p ended number bytes coming text bad state h =
    let all = all-items ended bytes h.part coming h.joined h.newline h.over in
    record { done = items_of h.part; left = all.0; items = all.1; text = text; refused = bad; last = state; session = h.session; prefix = IsPrefix-all text }

KnownSofar-begins : (p : Protocol) (ended : Bool) (number : ℕ) (told coming : Option (List ℕ)) (text : List ℕ) (bad : Bool) (state : p.State)
    → KnownSofar p ended number told coming text bad state → IfSome told (λ bytes. BeginsInLines p bytes text)
KnownSofar-begins p ended number None coming text bad state h = tt
KnownSofar-begins p ended number (Some bytes) None text bad state h = absurd h
KnownSofar-begins p ended number (Some bytes) (Some c) text bad state h = begins p ended number bytes c text bad state h

-- it ends in the middle of a reply
begins-in : (p : Protocol) (bytes text front more : List ℕ) → IsPrefix front more → BeginsInLines p bytes (text ++ more) → BeginsInLines p bytes (text ++ front)
begins-in p bytes text front more is_front b = record {
  done = b.done;
  left = b.left;
  items = b.items;
  text = b.text;
  refused = b.refused;
  last = b.last;
  session = b.session;
  prefix = record {
    rest = is_front.rest ++ b.prefix.rest;
    joined = b.prefix.joined ∙ ap (λ (l : List ℕ). l ++ b.prefix.rest) (ap (λ (l : List ℕ). text ++ l) is_front.joined ∙ sym (append_assoc text front is_front.rest)) ∙ append_assoc (text ++ front) is_front.rest b.prefix.rest;
  };
}

Begins-lines : (p : Protocol) (told : Option (List ℕ)) (text : List ℕ) → IfSome told (λ bytes. BeginsInLines p bytes text) → IfSome told (λ bytes. Begins p bytes text)
Begins-lines p None text h = tt
Begins-lines p (Some bytes) text h = in_lines h

KnownSofar-cut : (p : Protocol) (told : Option (List ℕ)) (text front more : List ℕ) → IsPrefix front more
    → IfSome told (λ bytes. BeginsInLines p bytes (text ++ more)) → IfSome told (λ bytes. BeginsInLines p bytes (text ++ front))
KnownSofar-cut p None text front more is_front b = tt
KnownSofar-cut p (Some bytes) text front more is_front b = begins-in p bytes text front more is_front b

-- it ends with the bytes
KnownSofar-all : (p : Protocol) (ended ended' : Bool) (number : ℕ) (told coming coming' : Option (List ℕ)) (text : List ℕ) (bad : Bool) (state : p.State)
    → KnownSofar p ended number told coming text bad state → GivesLines ended' coming coming' [] → IsAtEnd coming'
    → IfSome told (λ bytes. Session p p.first (items_of bytes) text bad state)
KnownSofar-all p ended ended' number None coming coming' text bad state h g a = tt
KnownSofar-all p ended ended' number (Some bytes) None coming' text bad state h g a = absurd h
KnownSofar-all p ended ended' number (Some bytes) (Some c) None text bad state h g a = absurd g
KnownSofar-all p ended ended' number (Some bytes) (Some c) (Some d) text bad state h g a = all ended h
  where
    all : (ended : Bool) → Sofar p ended number bytes c text bad state → Session p p.first (items_of bytes) text bad state
    all true h =
        let same : bytes ≡ h.part = h.joined ∙ ap (λ (l : List ℕ). h.part ++ l) (h.over refl) ∙ append-nil h.part in
        rw same h.session
    all false h =
        let rest : lines_of c ≡ [] = ap lines_of (g.joined ∙ ap (λ (l : List ℕ). g.part ++ l) a ∙ append-nil g.part) ∙ g.lines in
        let lines : lines_of bytes ≡ lines_of h.part = ap lines_of h.joined ∙ lines_of-append h.part c (h.newline refl) ∙ rw rest (append-nil (lines_of h.part)) in
        rw lines h.session

-- it ends where a read failed or the limit was passed: what stands whole before the last read is the part that was answered
stopped-answers : (p : Protocol) (number : ℕ) (bytes part held left text : List ℕ) (bad : Bool) (state : p.State) (taken taken' last : ℕ)
    → bytes ≡ part ++ (held ++ left) → to_last_newline part ≡ part → left ≡ drop taken bytes → taken ≤ length bytes
    → Session p p.first (items_of part) text bad state
    → NoNewline (take (length held + (taken' - taken) - last) (held ++ left)) → last ≤ taken' - taken → taken ≤ taken'
    → AnswersLines p (to_last_newline (take (taken' - last) bytes)) text bad
stopped-answers p number bytes part held left text bad state taken taken' last joined whole lost many session none small later =
    let size : length bytes ≡ length part + (length held + length left) = ap (λ (l : List ℕ). length l) joined ∙ length-append part (held ++ left) ∙ ap (λ n. length part + n) (length-append held left) in
    let less : length left ≡ length bytes - taken = ap (λ (l : List ℕ). length l) lost ∙ length-drop taken bytes in
    let e : length part + (length held + (taken' - taken) - last) ≡ taken' - last = omega (arith, size, less, many) in
    let same : to_last_newline (take (taken' - last) bytes) ≡ part = rw e at (to_last_newline-take bytes part (held ++ left) (length held + (taken' - taken) - last) joined whole none) in
    record { last = state; session = rw same session }

KnownSofar-stops : (p : Protocol) (number : ℕ) (told left : Option (List ℕ)) (held text : List ℕ) (bad : Bool) (state : p.State) (taken taken' last : ℕ)
    → KnownSofar p false number told (prepend_known held left) text bad state → Loses told left taken
    → NoneBefore (prepend_known held left) (length held + (taken' - taken) - last) → last ≤ taken' - taken → taken ≤ taken'
    → IfSome told (λ bytes. AnswersLines p (to_last_newline (take (taken' - last) bytes)) text bad)
KnownSofar-stops p number None left held text bad state taken taken' last h l n small later = tt
KnownSofar-stops p number (Some bytes) None held text bad state taken taken' last h l n small later = absurd h
KnownSofar-stops p number (Some bytes) (Some left) held text bad state taken taken' last h l n small later =
    stopped-answers p number bytes h.part held left text bad state taken taken' last h.joined (h.newline refl) l.0 l.1 h.session n small later

pub starts-running : (p : Protocol) (told : Option (List ℕ)) (last : ℕ) (took : Option (List ℕ)) (given : ℕ) (reader : Reader)
    → reader ≡ record { limit = p.shelf.limit; taken = 0; number = 0; held = []; line = []; ended = false; fault = None }
    → (IsNow : p.State → Type 0) → IsNow p.first
    → Running p told told last took took given given reader false IsNow
starts-running p told last took given reader e IsNow now = rw e (record {
  text = [];
  state = p.first;
  stands = now;
  written = Appends-none took;
  sofar = known told;
  fits = record { at_end = λ h. absurd (false_is_true h); last_gave = λ h. absurd (false_is_true h); held = omega arith };
  open_still = refl;
  limited = refl;
  counted = omega arith;
  within = omega arith;
  takes = record { loses = Loses-none told; counted = rises-by_none given };
})
  where
    false_is_true : false ≡ true → ⊥
    false_is_true e = cc

    known : (told : Option (List ℕ)) → KnownSofar p false 0 told (prepend_known [] told) [] false p.first
    known None = tt
    known (Some bytes) = record { part = []; joined = refl; counted = refl; newline = λ e. refl; over = λ h. absurd (false_is_true h); session = (refl, refl, refl) }

-- a line was read, answered and written
pub running-then : (p : Protocol) (told left left' : Option (List ℕ)) (last last' : ℕ) (took0 took took' : Option (List ℕ)) (g0 g g' : ℕ) (r r' : Reader) (bad also : Bool) (next : Next) (text : List ℕ) (IsNow IsAfter : p.State → Type 0)
    → Running p told left last took0 took g0 g r bad IsNow
    → (Fits r left last → Fits r' left' last')
    → (Fits r left last → GivesLines r'.ended (to_come r left) (to_come r' left') (says next r'.line))
    → (next ≡ End → ⊥)
    → r'.number ≡ r.number + length (says next r'.line)
    → r'.fault ≡ None → SaysTooMuch r'.limit r'.taken r'.fault → r'.limit ≡ r.limit
    → r'.number ≤ r'.taken → r.taken ≤ r'.taken
    → Loses left left' (r'.taken - r.taken) → RisesBy g g' (r'.taken - r.taken)
    → ((state : p.State) → IsNow state → GivesLine p state r'.number (line_text next r'.line) text also IsAfter) → Appends took took' text
    → Running p told left' last' took0 took' g0 g' r' (bad || also) IsAfter
running-then p told left left' last last' took0 took took' g0 g g' r r' bad also next text IsNow IsAfter h fits lines more number fault says_fault same_limit counted later loses given give written =
    let w = give h.state h.stands in
    let one : says next r'.line ≡ line_text next r'.line ∷ [] = says-line next r'.line more in
    let within : r'.taken ≤ r'.limit = rw fault at says_fault in
    record {
      text = h.text ++ text;
      written = Appends-then took0 took took' h.text text h.written written;
      state = w.after;
      stands = w.stands;
      sofar = KnownSofar-then p r.ended r'.ended r.number r'.number told (to_come r left) (to_come r' left') h.text text bad also (line_text next r'.line) h.state IsAfter h.sofar (rw one at (lines h.fits)) (rw one at number) w;
      fits = fits h.fits;
      open_still = fault;
      limited = same_limit ∙ h.limited;
      counted = counted;
      within = omega (arith, within, same_limit, h.limited);
      takes = takes-more told left left' g0 g g' r.taken r'.taken h.takes loses given later;
    }

-- the whole text with the reply at its end
closes-session : (p : Protocol) (told : Option (List ℕ)) (text : List ℕ) (some bad : Bool) (last : p.State) → IfSome told (λ bytes. Session p p.first (items_of bytes) text some last)
    → (more : List ℕ) → GivesEnd p last some more bad → IfSome told (λ bytes. IsWholeSession p bytes (text ++ more) bad)
closes-session p None text some bad last h more g = tt
closes-session p (Some bytes) text some bad last h more g = record {
  session = record {
    front = text;
    some = some;
    last = last;
    session = h;
    reply = g.reply;
    closes = g.closes;
    text_is = ap (λ (l : List ℕ). text ++ l) g.text_is;
    refused_is = g.bad_is;
  };
  all_there = g.all_there;
}

-- it ends where the source ends
pub ends-well : (p : Protocol) (told left left' : Option (List ℕ)) (last last' : ℕ) (took0 took took' : Option (List ℕ)) (g0 g : ℕ) (r r' : Reader) (bad bad' : Bool) (IsNow : p.State → Type 0)
    → Running p told left last took0 took g0 g r bad IsNow
    → (Fits r left last → Fits r' left' last')
    → (Fits r left last → GivesLines r'.ended (to_come r left) (to_come r' left') [])
    → r'.held ≡ [] → r'.ended ≡ true
    → ((state : p.State) → IsNow state → ClosesText p state bad took took' bad')
    → EndsWell p told left' took0 took' last' bad'
ends-well p told left left' last last' took0 took took' g0 g r r' bad bad' IsNow h fits lines none ended write =
    let there : IsTrue r'.ended = ended in
    let left_none : IsAtEnd left' = (fits h.fits).at_end there in
    let w = write h.state h.stands in
    record {
      writes = record {
        text = h.text ++ w.text;
        written = Appends-then took0 took took' h.text w.text h.written w.written;
        session = closes-session p told h.text bad bad' h.state (KnownSofar-all p r.ended r'.ended r.number told (to_come r left) (to_come r' left') h.text bad h.state h.sofar (lines h.fits) (rw none (at-end left' left_none))) w.text w.gives;
      };
      at_end = left_none;
      last_gave = (fits h.fits).last_gave there;
    }

begins-at_end : (p : Protocol) (told : Option (List ℕ)) (text front more : List ℕ) (bad : Bool) → IsPrefix front more
    → IfSome told (λ bytes. IsWholeSession p bytes (text ++ more) bad) → IfSome told (λ bytes. Begins p bytes (text ++ front))
begins-at_end p None text front more bad is_front h = tt
begins-at_end p (Some bytes) text front more bad is_front h = at_end (record {
  text = text ++ more;
  refused = bad;
  session = h.session;
  prefix = record { rest = is_front.rest; joined = ap (λ (l : List ℕ). text ++ l) is_front.joined ∙ sym (append_assoc text front is_front.rest) };
})

-- the reply at the end was begun, and the sink failed
pub ends-in_close : (p : Protocol) (told left left' : Option (List ℕ)) (last last' : ℕ) (took0 took took' : Option (List ℕ)) (g0 g : ℕ) (r r' : Reader) (bad : Bool) (IsNow : p.State → Type 0)
    → Running p told left last took0 took g0 g r bad IsNow
    → (Fits r left last → Fits r' left' last')
    → (Fits r left last → GivesLines r'.ended (to_come r left) (to_come r' left') [])
    → r'.held ≡ [] → r'.ended ≡ true
    → ((state : p.State) → IsNow state → ClosesSome p state bad took took')
    → WritesPrefix p told took0 took'
ends-in_close p told left left' last last' took0 took took' g0 g r r' bad IsNow h fits lines none ended write =
    let there : IsTrue r'.ended = ended in
    let left_none : IsAtEnd left' = (fits h.fits).at_end there in
    let w = write h.state h.stands in
    record {
      text = h.text ++ w.front;
      written = Appends-then took0 took took' h.text w.front h.written w.written;
      begins = begins-at_end p told h.text w.front w.text w.bad w.prefix
          (closes-session p told h.text bad w.bad h.state (KnownSofar-all p r.ended r'.ended r.number told (to_come r left) (to_come r' left') h.text bad h.state h.sofar (lines h.fits) (rw none (at-end left' left_none))) w.text w.gives);
    }

-- it ends between two lines
pub ends-between : (p : Protocol) (told left : Option (List ℕ)) (last : ℕ) (took0 took : Option (List ℕ)) (g0 g : ℕ) (r : Reader) (bad : Bool) (IsNow : p.State → Type 0)
    → Running p told left last took0 took g0 g r bad IsNow → WritesPrefix p told took0 took
ends-between p told left last took0 took g0 g r bad IsNow h = record { text = h.text; written = h.written; begins = Begins-lines p told h.text (KnownSofar-begins p r.ended r.number told (to_come r left) h.text bad h.state h.sofar) }

-- nothing of the reply at the end was written
pub ends-before_close : (p : Protocol) (told left : Option (List ℕ)) (last : ℕ) (took0 took took' : Option (List ℕ)) (g0 g : ℕ) (r : Reader) (bad : Bool) (IsNow : p.State → Type 0)
    → Running p told left last took0 took g0 g r bad IsNow → WritesNothing took took' → WritesPrefix p told took0 took'
ends-before_close p told left last took0 took took' g0 g r bad IsNow h w = record {
  text = h.text ++ [];
  written = Appends-then took0 took took' h.text [] h.written w.written;
  begins = rw (append-nil h.text) (Begins-lines p told h.text (KnownSofar-begins p r.ended r.number told (to_come r left) h.text bad h.state h.sofar));
}

-- what was taken in all
pub takes-now : (p : Protocol) (told left left' : Option (List ℕ)) (last : ℕ) (took0 took : Option (List ℕ)) (g0 g g' : ℕ) (r r' : Reader) (bad : Bool) (IsNow : p.State → Type 0)
    → Running p told left last took0 took g0 g r bad IsNow
    → r.taken ≤ r'.taken → Loses left left' (r'.taken - r.taken) → RisesBy g g' (r'.taken - r.taken) → Takes told left' g0 g' r'.taken
takes-now p told left left' last took0 took g0 g g' r r' bad IsNow h later loses given = takes-more told left left' g0 g g' r.taken r'.taken h.takes loses given later

pub takes-within : (p : Protocol) (told left left' : Option (List ℕ)) (last : ℕ) (took0 took : Option (List ℕ)) (g0 g g' : ℕ) (r r' : Reader) (bad : Bool) (IsNow : p.State → Type 0)
    → Running p told left last took0 took g0 g r bad IsNow
    → r'.taken ≤ r'.limit → r'.limit ≡ r.limit → r.taken ≤ r'.taken
    → Loses left left' (r'.taken - r.taken) → RisesBy g g' (r'.taken - r.taken)
    → TakesWithin told left' g0 g' p.shelf.limit
takes-within p told left left' last took0 took g0 g g' r r' bad IsNow h within same_limit later loses given =
    record { count = r'.taken; within = omega (arith, within, same_limit, h.limited); takes = takes-more told left left' g0 g g' r.taken r'.taken h.takes loses given later }

-- it ends where a read failed or the limit was passed
pub stops : (p : Protocol) (told left : Option (List ℕ)) (last last' : ℕ) (took0 took : Option (List ℕ)) (g0 g : ℕ) (r r' : Reader) (bad : Bool) (IsNow : p.State → Type 0)
    → Running p told left last took0 took g0 g r bad IsNow
    → r.ended ≡ false
    → NoneBefore (to_come r left) (length r.held + (r'.taken - r.taken) - last')
    → last' ≤ r'.taken - r.taken → r.taken ≤ r'.taken
    → WritesWholeLines p told took0 took (r'.taken - last')
stops p told left last last' took0 took g0 g r r' bad IsNow h not_ended none small later = record {
  text = h.text;
  refused = bad;
  written = h.written;
  session = KnownSofar-stops p r.number told left r.held h.text bad h.state r.taken r'.taken last' (rw not_ended at h.sofar) h.takes.loses none small later;
}

-- a read failed
pub stops-at_fault : (p : Protocol) (told left left' : Option (List ℕ)) (last last' : ℕ) (took0 took : Option (List ℕ)) (g0 g g' : ℕ) (r r' : Reader) (bad : Bool) (IsNow : p.State → Type 0)
    → Running p told left last took0 took g0 g r bad IsNow
    → r.ended ≡ false
    → NoneBefore (to_come r left) (length r.held + (r'.taken - r.taken) - last')
    → last' ≡ 0
    → r'.taken ≤ r'.limit → r'.limit ≡ r.limit → r.taken ≤ r'.taken
    → Loses left left' (r'.taken - r.taken) → RisesBy g g' (r'.taken - r.taken)
    → StopsAtFault p told left' took0 took g0 g'
stops-at_fault p told left left' last last' took0 took g0 g g' r r' bad IsNow h not_ended none no_last within same_limit later loses given =
    let all : r'.taken - last' ≡ r'.taken = omega arith in
    record {
      count = r'.taken;
      within = omega (arith, within, same_limit, h.limited);
      takes = takes-more told left left' g0 g g' r.taken r'.taken h.takes loses given later;
      writes = rw all at (stops p told left last last' took0 took g0 g r r' bad IsNow h not_ended none (omega arith) later);
    }

-- a reply was begun, and the sink failed
pub ends-in_reply : (p : Protocol) (told left left' : Option (List ℕ)) (last : ℕ) (took0 took took' : Option (List ℕ)) (g0 g : ℕ) (r r' : Reader) (bad also : Bool) (next : Next) (text : List ℕ) (IsNow IsAfter : p.State → Type 0)
    → Running p told left last took0 took g0 g r bad IsNow
    → (Fits r left last → GivesLines r'.ended (to_come r left) (to_come r' left') (says next r'.line))
    → (next ≡ End → ⊥)
    → r'.number ≡ r.number + length (says next r'.line)
    → ((state : p.State) → IsNow state → GivesLine p state r'.number (line_text next r'.line) text also IsAfter) → AppendsPrefix took took' text
    → WritesPrefix p told took0 took'
ends-in_reply p told left left' last took0 took took' g0 g r r' bad also next text IsNow IsAfter h lines more number give write =
    let w = give h.state h.stands in
    let one : says next r'.line ≡ line_text next r'.line ∷ [] = says-line next r'.line more in
    let grown : KnownSofar p r'.ended r'.number told (to_come r' left') (h.text ++ text) (bad || also) w.after =
    KnownSofar-then p r.ended r'.ended r.number r'.number told (to_come r left) (to_come r' left') h.text text bad also (line_text next r'.line) h.state IsAfter h.sofar (rw one at (lines h.fits)) (rw one at number) w in
    record {
      text = h.text ++ write.front;
      written = Appends-then took0 took took' h.text write.front h.written write.appended;
      begins = Begins-lines p told (h.text ++ write.front) (KnownSofar-cut p told h.text write.front text write.begins (KnownSofar-begins p r'.ended r'.number told (to_come r' left') (h.text ++ text) (bad || also) w.after grown));
    }

-- a read of the shelf failed
pub stops-at_name : (p : Protocol) (told left left' : Option (List ℕ)) (last : ℕ) (took0 took : Option (List ℕ)) (g0 g g' : ℕ) (r r' : Reader) (bad : Bool) (next : Next) (name : List ℕ) (IsNow : p.State → Type 0)
    → (h : Running p told left last took0 took g0 g r bad IsNow)
    → (Fits r left last → GivesLines r'.ended (to_come r left) (to_come r' left') (says next r'.line))
    → (next ≡ End → ⊥)
    → r'.number ≡ r.number + length (says next r'.line)
    → r'.fault ≡ None → SaysTooMuch r'.limit r'.taken r'.fault → r'.limit ≡ r.limit → r.taken ≤ r'.taken
    → Loses left left' (r'.taken - r.taken) → RisesBy g g' (r'.taken - r.taken)
    → p.Reaches h.state (line_text next r'.line) name
    → StopsAtName p told left' took0 took g0 g' name
stops-at_name p told left left' last took0 took g0 g g' r r' bad next name IsNow h lines more number fault says_fault same_limit later loses given reach =
    let one : says next r'.line ≡ line_text next r'.line ∷ [] = says-line next r'.line more in
    let within : r'.taken ≤ r'.limit = rw fault at says_fault in
    let takes : Takes told left' g0 g' r'.taken = takes-more told left left' g0 g g' r.taken r'.taken h.takes loses given later in
    record {
      count = r'.taken;
      within = omega (arith, within, same_limit, h.limited);
      takes = takes;
      text = h.text;
      written = h.written;
      stops = KnownSofar-name p r.ended r'.ended r.number r'.number told (to_come r left) left' r'.held h.text bad (line_text next r'.line) h.state r'.taken name h.sofar (rw one at (lines h.fits)) (rw one at number) takes.loses reach;
    }

-- a line was read whose `load` reaches the shelf
shelf-reached : (p : Protocol) (told : Option (List ℕ)) (n : ℕ) (name text : List ℕ) → IfSome told (λ bytes. StopsAtLoad p bytes n name text) → IfSome told (λ bytes. ReachesShelf p bytes)
shelf-reached p None n name text h = tt
shelf-reached p (Some bytes) n name text h = record { count = n; name = name; text = text; stops = h }

pub stops-reach : (p : Protocol) (told left : Option (List ℕ)) (took0 took : Option (List ℕ)) (g0 g : ℕ) (name : List ℕ) → StopsAtName p told left took0 took g0 g name → IfSome told (λ bytes. ReachesShelf p bytes)
stops-reach p told left took0 took g0 g name h = shelf-reached p told h.count name h.text h.stops

-- the shelf is as it was, or the `load` of some line reached it
abbrev pub Untouched : {H : Type 0} → Protocol → Option (List ℕ) → H → H → Type 0
Untouched p told before now = IfSome told (λ bytes. (now ≡ before) ⊎ ReachesShelf p bytes)

pub untouched-yet : {H : Type 0} (p : Protocol) (told : Option (List ℕ)) (shelf : H) → Untouched p told shelf shelf
untouched-yet p None shelf = tt
untouched-yet p (Some bytes) shelf = inl refl

pub untouched-then : {H : Type 0} (p : Protocol) (told : Option (List ℕ)) (before now after : H) → Untouched p told before now → (after ≡ now) ⊎ IfSome told (λ bytes. ReachesShelf p bytes) → Untouched p told before after
untouched-then p None before now after h then = tt
untouched-then p (Some bytes) before now after (inr reached) then = inr reached
untouched-then p (Some bytes) before now after (inl same) (inl also) = inl (also ∙ same)
untouched-then p (Some bytes) before now after (inl same) (inr reached) = inr reached

pub untouched-after : {H : Type 0} (p : Protocol) (told left left' : Option (List ℕ)) (last : ℕ) (took0 took : Option (List ℕ)) (g0 g g' : ℕ) (r r' : Reader) (bad : Bool) (next : Next) (IsNow : p.State → Type 0) (before now after : H)
    → (h : Running p told left last took0 took g0 g r bad IsNow)
    → (Fits r left last → GivesLines r'.ended (to_come r left) (to_come r' left') (says next r'.line))
    → (next ≡ End → ⊥)
    → r'.number ≡ r.number + length (says next r'.line)
    → r'.fault ≡ None → SaysTooMuch r'.limit r'.taken r'.fault → r'.limit ≡ r.limit → r.taken ≤ r'.taken
    → Loses left left' (r'.taken - r.taken) → RisesBy g g' (r'.taken - r.taken)
    → Untouched p told before now → (after ≡ now) ⊎ ((name : List ℕ) × p.Reaches h.state (line_text next r'.line) name)
    → Untouched p told before after
untouched-after p told left left' last took0 took g0 g g' r r' bad next IsNow before now after h lines more number fault says_fault same_limit later loses given u (inl same) = untouched-then p told before now after u (inl same)
untouched-after p told left left' last took0 took g0 g g' r r' bad next IsNow before now after h lines more number fault says_fault same_limit later loses given u (inr w) =
    untouched-then p told before now after u
    (inr (stops-reach p told left' took0 took g0 g' w.0
    (stops-at_name p told left left' last took0 took g0 g g' r r' bad next w.0 IsNow h lines more number fault says_fault same_limit later loses given w.1)))
