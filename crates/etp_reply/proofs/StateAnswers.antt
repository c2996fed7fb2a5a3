-- What lines come to, from the parts that give it, by the state before the line.
use Rattle.std.proofs.Common.{◌≡◌, ℕ, List, [], refl, sym, ◌∙◌, ap, subst, Option, None, Some, Bool, true, false, ◌||◌}
use Rattle.std.specs.Borrow.{Bor}
use Rattle.etp_io.specs.Texts.{LineText}
use Rattle.etp_ledger.specs.Files.{File}
use Rattle.etp_reading.specs.Reading.{given_text}
use Rattle.etp_command.specs.Requests.{Query, Request, asked, withdraw, query}
use Rattle.etp_print.specs.Texts.{Reply, silent, refused, reply_text}
use Rattle.etp_print.specs.Given.{Gives, GivesThen}
use Rattle.etp_desk.specs.States as States
use Rattle.etp_desk.specs.States.{State, Opens, unopened, over, filing, stopped}
use Rattle.etp_desk.specs.Desks.{opened_of, Leaves}
use Rattle.etp_desk.specs.declared.opened.Opened.{Opened}
use Rattle.etp_filing.specs.FileReplies.{HasFreeName, closes_body, goes_on, closes}
use Rattle.etp_filing.specs.Filings.{IsFiling, GivesFile, with_line, loading}
use Rattle.etp_filing.specs.Withdrawals.{WithdrawReply}
use Rattle.etp_filing.specs.declared.filing.Filing.{Filing}
use Rattle.etp_reply.specs.Shelves.{KnownShelf, IsLoaded}
use Rattle.etp_reply.specs.Replies.{LoadsName, LoadReply, unreached, loaded, QueryReply, OpenReply, OpenedReply, FirstReply, Reaches}
use Rattle.etp_reply.specs.Given.{GivesState, GivesReply, GivesClose}
use Rattle.etp_reply.specs.Desks.{IsStage, IsDesk, IsLoading}
use Rattle.etp_reply.specs.Outcomes.{LoadsFile, IsOutcome, LineOutcome}
use Rattle.etp_reply.specs.declared.desk.Desk.{Desk}
use Rattle.etp_reply.specs.declared.reply.Outcome.{Outcome}
use Rattle.etp_reply.specs.declared.reply.Outcome.TheVariants.{Replied, Loads}

-- the same reply is one of another kind
pub GivesState-map : (n : ℕ) (text : List ℕ) (flag : Bool) (P Q : Reply → State → Type 0) (IsAfter : State → Type 0) → ((reply : Reply) (after : State) → P reply after → Q reply after)
    → GivesState n text flag P IsAfter → GivesState n text flag Q IsAfter
GivesState-map n text flag P Q IsAfter f g = record { reply = g.reply; after = g.after; replies = f g.reply g.after g.replies; stands = g.stands; text_is = g.text_is; refused_is = g.refused_is }

loads-map : (s : KnownShelf) (n : ℕ) (name : List ℕ) (desk : Desk) (f : Filing) (text : List ℕ) (P Q : Reply → State → Type 0) (L M : List ℕ → Type 0)
    → ((reply : Reply) (after : State) → P reply after → Q reply after) → ((w : List ℕ) → L w → M w)
    → LoadsFile s n name desk f text P L → LoadsFile s n name desk f text Q M
loads-map s n name desk f text P Q L M u v h = record { none_yet = h.none_yet; load = v name h.load; loading = h.loading; replies = λ reply after x. u reply after (h.replies reply after x) }

pub IsOutcome-map : (s : KnownShelf) (n : ℕ) (text : List ℕ) (desk : Desk) (P Q : Reply → State → Type 0) (L M : List ℕ → Type 0) (outcome : Outcome)
    → ((reply : Reply) (after : State) → P reply after → Q reply after) → ((name : List ℕ) → L name → M name)
    → IsOutcome s n text desk P L outcome → IsOutcome s n text desk Q M outcome
IsOutcome-map s n text desk P Q L M (Replied flag) f g h = GivesState-map n text flag P Q (IsDesk desk) f h
IsOutcome-map s n text desk P Q L M (Loads name next) f g h = loads-map s n name.now desk next text P Q L M f g h

-- no body is read
pub at_rest : (o : Opened) (now : Option Filing) (state : State) → now ≡ None → state ≡ over (opened_of o) → IsStage (Some o) now state
at_rest o now state none e = subst (λ (f : Option Filing). IsStage (Some o) f state) (sym none) e

left_over : (o p : Opened) (files : List File) → Leaves o p files → over (record { laws = o.laws; files = files }) ≡ over (opened_of p)
left_over o p files l = rw (l.same_laws, l.files_are) refl

-- a request that is refused
pub refuses-request : (s : KnownShelf) (o : Opened) (now : Option Filing) (n : ℕ) (request : Request) (text why : List ℕ) (flag : Bool) → now ≡ None → OpenReply s (opened_of o) n request (refused why) (over (opened_of o))
    → (text ≡ reply_text n (refused why)) × (flag ≡ true) → GivesState n text flag (OpenReply s (opened_of o) n request) (IsStage (Some o) now)
refuses-request s o now n request text why flag none r h = record {
  reply = refused why;
  after = over (opened_of o);
  replies = r;
  stands = at_rest o now (over (opened_of o)) none refl;
  text_is = h.0;
  refused_is = h.1;
}

-- a query, which changes nothing
pub answers-query : (s : KnownShelf) (o : Opened) (now : Option Filing) (n : ℕ) (request : Request) (q : Query) (text : List ℕ) (flag : Bool) → now ≡ None → request ≡ query q → Gives n text flag (QueryReply (opened_of o) q)
    → GivesState n text flag (OpenReply s (opened_of o) n request) (IsStage (Some o) now)
answers-query s o now n request q text flag none e g =
    subst (λ (asked : Request). GivesState n text flag (OpenReply s (opened_of o) n asked) (IsStage (Some o) now)) (sym e) (record {
      reply = g.reply;
      after = over (opened_of o);
      replies = (g.is, refl);
      stands = at_rest o now (over (opened_of o)) none refl;
      text_is = g.text_is;
      refused_is = g.refused_is;
    })

-- a file was to be taken out
pub withdraws : (s : KnownShelf) (o p : Opened) (now : Option Filing) (n : ℕ) (word text : List ℕ) (flag : Bool) → now ≡ None
    → GivesThen n text flag (WithdrawReply o.ledger.files word) (Leaves o p)
    → GivesState n text flag (OpenReply s (opened_of o) n (withdraw word)) (IsStage (Some p) now)
withdraws s o p now n word text flag none g = record {
  reply = g.reply;
  after = over (record { laws = o.laws; files = g.files });
  replies = (g.files, g.is, refl);
  stands = at_rest p now (over (record { laws = o.laws; files = g.files })) none (left_over o p g.files g.stands);
  text_is = g.text_is;
  refused_is = g.refused_is;
}

-- the list is opened for a request
pub opens-outcome : (s : KnownShelf) (o : Opened) (desk : Desk) (n : ℕ) (request : Request) (text : List ℕ) (outcome : Outcome) → Opens 4 (opened_of o)
    → IsOutcome s n text desk (OpenReply s (opened_of o) n request) (LoadsName o.ledger.files request) outcome
    → IsOutcome s n text desk (OpenedReply s n request) (LoadsName [] request) outcome
opens-outcome s o desk n request text outcome opens h =
    IsOutcome-map s n text desk (OpenReply s (opened_of o) n request) (OpenedReply s n request) (LoadsName o.ledger.files request) (LoadsName [] request) outcome
    (λ reply after x. (opened_of o, opens, x)) (λ name x. (x.0, subst (λ (files : List File). HasFreeName files (Some name) name) opens.no_files x.1)) h

-- a request, once the laws stand
pub over-outcome : (s : KnownShelf) (o : Opened) (n : ℕ) (request : Request) (line : LineText) (text : List ℕ) (desk : Desk) (outcome : Outcome) (state : State) → request ≡ asked line
    → state ≡ over (opened_of o) → IsOutcome s n text desk (OpenReply s (opened_of o) n request) (LoadsName o.ledger.files request) outcome → LineOutcome s state n line text desk outcome
over-outcome s o n request line text desk outcome state e t h =
    subst (λ (before : State). LineOutcome s before n line text desk outcome) (sym t)
    (IsOutcome-map s n text desk (OpenReply s (opened_of o) n request) (OpenReply s (opened_of o) n (asked line)) (LoadsName o.ledger.files request) (Reaches (over (opened_of o)) line) outcome
    (λ reply after x. rw e at x) (λ name x. rw e at x) h)

-- the first request
pub first-outcome : (s : KnownShelf) (n : ℕ) (request : Request) (line : LineText) (text : List ℕ) (desk : Desk) (outcome : Outcome) (state : State) → request ≡ asked line
    → state ≡ unopened → IsOutcome s n text desk (FirstReply s n request) (LoadsName [] request) outcome → LineOutcome s state n line text desk outcome
first-outcome s n request line text desk outcome state e t h =
    subst (λ (before : State). LineOutcome s before n line text desk outcome) (sym t)
    (IsOutcome-map s n text desk (FirstReply s n request) (FirstReply s n (asked line)) (LoadsName [] request) (Reaches unopened line) outcome
    (λ reply after x. rw e at x) (λ name x. rw e at x) h)

-- `end` closes a body
pub closes-body : (s : KnownShelf) (o p : Opened) (now : Option Filing) (f : Filing) (n : ℕ) (line : LineText) (text : List ℕ) (flag : Bool) (state : State) → now ≡ None → closes_body line ≡ true
    → ((g : States.Filing) × IsFiling o f g × (state ≡ filing (opened_of o) g))
    → ((g : States.Filing) → IsFiling o f g → GivesFile (opened_of o) g true text flag (Leaves o p))
    → GivesReply s state n line text flag (IsStage (Some p) now)
closes-body s o p now f n line text flag state none t at give =
    let g = at.0 in
    let h = give g at.1 in
    subst (λ (before : State). GivesReply s before n line text flag (IsStage (Some p) now)) (sym at.2) (record {
      reply = h.reply;
      after = over (record { laws = o.laws; files = h.files });
      replies = closes h.files t h.is refl;
      stands = at_rest p now (over (record { laws = o.laws; files = h.files })) none (left_over o p h.files h.stands);
      text_is = h.text_is;
      refused_is = h.refused_is;
    })

-- any other line is one of the body
pub goes-on-body : (s : KnownShelf) (o : Opened) (f next : Filing) (n : ℕ) (line : Option (Bor (List ℕ))) (text : List ℕ) (state : State) → closes_body (given_text line) ≡ false → text ≡ []
    → ((g : States.Filing) × IsFiling o f g × (state ≡ filing (opened_of o) g))
    → ((p : Opened) (g : States.Filing) → IsFiling p f g → IsFiling p next (with_line g (given_text line)))
    → GivesReply s state n (given_text line) text false (IsStage (Some o) (Some next))
goes-on-body s o f next n line text state t none at more =
    let g = at.0 in
    subst (λ (before : State). GivesReply s before n (given_text line) text false (IsStage (Some o) (Some next))) (sym at.2) (record {
      reply = silent;
      after = filing (opened_of o) (with_line g (given_text line));
      replies = goes_on t refl refl;
      stands = (with_line g (given_text line), more o g at.1, refl);
      text_is = none;
      refused_is = refl;
    })

-- the name isn't free, and the shelf isn't reached
pub refuses-load : (s : KnownShelf) (o p : Opened) (n : ℕ) (word text : List ℕ) (flag : Bool) → (HasFreeName o.ledger.files (Some word) word → ⊥)
    → GivesFile (opened_of o) (loading n word []) true text flag (Leaves o p)
    → GivesState n text flag (LoadReply s (opened_of o) n word) (IsStage (Some p) None)
refuses-load s o p n word text flag taken h = record {
  reply = h.reply;
  after = over (record { laws = o.laws; files = h.files });
  replies = unreached h.files taken h.is refl;
  stands = left_over o p h.files h.stands;
  text_is = h.text_is;
  refused_is = h.refused_is;
}

same-opened : {o p : Opened} → Some o ≡ Some p → o ≡ p
same-opened e = cc

-- the file that is loaded stands over the laws and files that stand
pub loading-stands : (d : Desk) (now : Opened) (n : ℕ) (name : List ℕ) (lines : List LineText) (f : Filing) → d.opened ≡ Some now → IsLoading d n name lines f
    → (g : States.Filing) × IsFiling now f g
loading-stands d now n name lines f e l =
    let same : now ≡ l.opened = same-opened (sym e ∙ l.stands) in
    (loading n name lines, subst (λ (o : Opened). IsFiling o f (loading n name lines)) (sym same) l.pending)

-- the file was read from the shelf
pub answers-load : (s : KnownShelf) (d : Desk) (now p : Opened) (f : Filing) (n : ℕ) (name text : List ℕ) (lines : List LineText) (flag : Bool) → d.opened ≡ Some now
    → ((g : States.Filing) → IsFiling now f g → GivesFile (opened_of now) g true text flag (Leaves now p))
    → (l : IsLoading d n name lines f) → IsLoaded s name lines
    → GivesState n text flag (LoadReply s (opened_of l.opened) n name) (IsStage (Some p) d.filing)
answers-load s d now p f n name text lines flag e give l there =
    let same : now ≡ l.opened = same-opened (sym e ∙ l.stands) in
    let free : HasFreeName now.ledger.files (Some name) name = subst (λ (o : Opened). HasFreeName o.ledger.files (Some name) name) (sym same) l.free in
    let pending : IsFiling now f (loading n name lines) = subst (λ (o : Opened). IsFiling o f (loading n name lines)) (sym same) l.pending in
    let h : GivesFile (opened_of now) (loading n name lines) true text flag (Leaves now p) = give (loading n name lines) pending in
    let one : GivesState n text flag (LoadReply s (opened_of now) n name) (IsStage (Some p) d.filing) = record {
      reply = h.reply;
      after = over (record { laws = now.laws; files = h.files });
      replies = loaded lines h.files free there h.is refl;
      stands = at_rest p d.filing (over (record { laws = now.laws; files = h.files })) l.no_body (left_over now p h.files h.stands);
      text_is = h.text_is;
      refused_is = h.refused_is;
    } in
    subst (λ (o : Opened). GivesState n text flag (LoadReply s (opened_of o) n name) (IsStage (Some p) d.filing)) same one

-- a file is loaded only where the laws stand
pub not-loading : (d : Desk) (n : ℕ) (name : List ℕ) (lines : List LineText) (f : Filing) → d.opened ≡ None → IsLoading d n name lines f → ⊥
not-loading d n name lines f e l = let x : None ≡ Some l.opened = sym e ∙ l.stands in cc

-- the source ends within a body
pub closes-open : (o p : Opened) (f : Filing) (text : List ℕ) (flag bad : Bool) (state : State)
    → ((g : States.Filing) × IsFiling o f g × (state ≡ filing (opened_of o) g))
    → ((g : States.Filing) → IsFiling o f g → GivesFile (opened_of o) g false text flag (Leaves o p))
    → GivesClose state bad text (bad || flag)
closes-open o p f text flag bad state at give =
    let g = at.0 in
    let h = give g at.1 in
    subst (λ (s : State). GivesClose s bad text (bad || flag)) (sym at.2)
    (record { reply = h.reply; closes = (h.files, h.is); all_there = λ e. cc; text_is = h.text_is; bad_is = ap (λ (b : Bool). bad || b) h.refused_is })
