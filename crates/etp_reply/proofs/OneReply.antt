-- A line has one reply, where the shelf tells what it keeps.
use Rattle.std.proofs.Common.{◌≡◌, ℕ, List, [], length, refl, sym, ◌∙◌, ap, subst, Option, None, Some, true, false, arith}
use Rattle.etp_theory.specs.LawNumbers.{law_numbered}
use Rattle.etp_laws.specs.Listing.{IsTheList}
use Rattle.etp_io.specs.Texts.{LineText}
use Rattle.etp_ledger.specs.Files.{File}
use Rattle.etp_command.specs.Requests.{Query, law, number, dual, ask, why, files as all_files, counts, row, class, classes, csv, ledger, profile, Request, blank, long, bad, order, file, load, withdraw, query, asked}
use Rattle.etp_print.specs.Texts.{Reply}
use Rattle.etp_show.proofs.OneLaw.{number_reply-only, dual_reply-only}
use Rattle.etp_profile.proofs.OneProfile.{profile_reply-only}
use Rattle.etp_survey.proofs.OneAnswer.{ask_reply-only, counts_reply-only, row_reply-only, class_reply-only, classes_reply-only, csv_reply-only}
use Rattle.etp_evidence.proofs.OneWhy.{why_reply-only}
use Rattle.etp_desk.specs.States.{Opened, Opens, Filing, State, unopened, over, filing, stopped}
use Rattle.etp_desk.proofs.Opening.{opens-one}
use Rattle.etp_filing.specs.FileReplies.{FileReply, BodyReply, goes_on, closes}
use Rattle.etp_filing.specs.Filings.{loading}
use Rattle.etp_filing.specs.Withdrawals.{WithdrawReply}
use Rattle.etp_filing.proofs.OneFile.{file_reply-only, body_reply-only, withdraw_reply-only}
use Rattle.etp_reply.specs.Shelves.{KnownShelf, HasLines, IsMissing}
use Rattle.etp_reply.specs.Replies.{QueryReply, LoadReply, unreached, loaded, missing, OpenReply, OpenedReply, FirstReply, Replies, Closes}

-- a query has one reply
query_reply-only : (o : Opened) → IsTheList o.laws.order o.laws.equations → (q : Query) (r s : Reply) → QueryReply o q r → QueryReply o q s → r ≡ s
query_reply-only o l (law n) r s a b = a ∙ sym b
query_reply-only o l (number text) r s a b = number_reply-only o.laws.order o.laws.equations l text r s a b
query_reply-only o l (dual n) r s a b = dual_reply-only o.laws.order o.laws.equations l n (law_numbered o.laws.equations n) r s a b
query_reply-only o l (ask e f) r s a b = ask_reply-only o.laws o.files e f r s a b
query_reply-only o l (why e f) r s a b = why_reply-only o.laws o.files e f r s a b
query_reply-only o l all_files r s a b = a ∙ sym b
query_reply-only o l counts r s a b = counts_reply-only o.laws o.files r s a b
query_reply-only o l (row e) r s a b = row_reply-only o.laws o.files e r s a b
query_reply-only o l (class e) r s a b = class_reply-only o.laws o.files e r s a b
query_reply-only o l classes r s a b = classes_reply-only o.laws o.files r s a b
query_reply-only o l (csv first last) r s a b = csv_reply-only o.laws o.files first last r s a b
query_reply-only o l ledger r s a b = a ∙ sym b
query_reply-only o l (profile word) r s a b = profile_reply-only o.laws.order o.laws.equations o.files word r s a b

-- the state's list is the one of its order
pub IsRightState : State → Type 0
IsRightState unopened = Unit {0}
IsRightState (over o) = IsTheList o.laws.order o.laws.equations
IsRightState (filing o f) = IsTheList o.laws.order o.laws.equations
IsRightState stopped = Unit {0}

-- a shelf that tells what it keeps
abbrev pub told : ℕ → (List ℕ → Option (List ℕ)) → KnownShelf
told limit kept = record { limit = limit; keeps = Some kept }

-- one reply and one state are written down
one-state : (r s : Reply) (f g last : State) → IsRightState last → r ≡ s → f ≡ last → g ≡ last → (r ≡ s) × (f ≡ g) × IsRightState f
unfolding IsRightState
one-state r s f g last l e a b = (e, a ∙ sym b, subst IsRightState (sym a) l)

withdraw-state : (o : Opened) → IsTheList o.laws.order o.laws.equations → (word : List ℕ) (r s : Reply) (f g : State)
    → ((fs : List File) × WithdrawReply o.files word r fs × (f ≡ over (record { laws = o.laws; files = fs })))
    → ((gs : List File) × WithdrawReply o.files word s gs × (g ≡ over (record { laws = o.laws; files = gs }))) → (r ≡ s) × (f ≡ g) × IsRightState f
unfolding IsRightState
withdraw-state o l word r s f g a b =
    let one = withdraw_reply-only o.files word r s a.0 b.0 a.1 b.1 in
    (one.0, a.2 ∙ ap (λ (k : List File). over (record { laws = o.laws; files = k })) one.1 ∙ sym b.2, subst IsRightState (sym a.2) l)

one_body_lines : (limit : ℕ) (kept : Option (List ℕ)) (a b : List LineText) → HasLines limit a kept → HasLines limit b kept → a ≡ b
one_body_lines limit None a b h k = absurd h
one_body_lines limit (Some bytes) a b h k = h.1 ∙ sym k.1

lines_or_missing : (limit : ℕ) (kept : Option (List ℕ)) (a : List LineText) → HasLines limit a kept → IsMissing limit kept → ⊥
lines_or_missing limit None a h m = h
lines_or_missing limit (Some bytes) a h m = omega (arith, h.0, m)

-- a file that is read has one reply
file-state : (o : Opened) → IsTheList o.laws.order o.laws.equations → (q : Filing) (r s : Reply) (x y : List File) (f g : State)
    → FileReply o q true r x → FileReply o q true s y → f ≡ over (record { laws = o.laws; files = x }) → g ≡ over (record { laws = o.laws; files = y })
    → (r ≡ s) × (f ≡ g) × IsRightState f
unfolding IsRightState
file-state o l q r s x y f g a b e h =
    let one = file_reply-only o q true l r s x y a b in
    (one.0, e ∙ ap (λ (k : List File). over (record { laws = o.laws; files = k })) one.1 ∙ sym h, subst IsRightState (sym e) l)

load_reply-only : (limit : ℕ) (kept : List ℕ → Option (List ℕ)) (o : Opened) → IsTheList o.laws.order o.laws.equations → (n : ℕ) (word : List ℕ) (r s : Reply) (f g : State)
    → LoadReply (told limit kept) o n word r f → LoadReply (told limit kept) o n word s g → (r ≡ s) × (f ≡ g) × IsRightState f
unfolding IsRightState
load_reply-only limit kept o l n word r s f g (unreached x h a e) (unreached y k b i) = file-state o l (loading n word []) r s x y f g a b e i
load_reply-only limit kept o l n word r s f g (unreached x h a e) (loaded lines y k m b i) = absurd (h k)
load_reply-only limit kept o l n word r s f g (unreached x h a e) (missing k m b i) = absurd (h k)
load_reply-only limit kept o l n word r s f g (loaded lines x h m a e) (unreached y k b i) = absurd (k h)
load_reply-only limit kept o l n word r s f g (loaded lines x h m a e) (loaded more y k v b i) =
    let same : more ≡ lines = one_body_lines limit (kept word) more lines v m in
    file-state o l (loading n word lines) r s x y f g a (subst (λ (ls : List LineText). FileReply o (loading n word ls) true s y) same b) e i
load_reply-only limit kept o l n word r s f g (loaded lines x h m a e) (missing k v b i) = absurd (lines_or_missing limit (kept word) lines m v)
load_reply-only limit kept o l n word r s f g (missing h m a e) (unreached y k b i) = absurd (k h)
load_reply-only limit kept o l n word r s f g (missing h m a e) (loaded lines y k v b i) = absurd (lines_or_missing limit (kept word) lines v m)
load_reply-only limit kept o l n word r s f g (missing h m a e) (missing k v b i) = (a ∙ sym b, e ∙ sym i, subst IsRightState (sym e) tt)

open_reply-only : (limit : ℕ) (kept : List ℕ → Option (List ℕ)) (o : Opened) → IsTheList o.laws.order o.laws.equations → (n : ℕ) (request : Request) (r s : Reply) (f g : State)
    → OpenReply (told limit kept) o n request r f → OpenReply (told limit kept) o n request s g → (r ≡ s) × (f ≡ g) × IsRightState f
unfolding IsRightState
open_reply-only limit kept o l n blank r s f g a b = one-state r s f g (over o) l (a.0 ∙ sym b.0) a.1 b.1
open_reply-only limit kept o l n long r s f g a b = one-state r s f g (over o) l (a.0 ∙ sym b.0) a.1 b.1
open_reply-only limit kept o l n bad r s f g a b = one-state r s f g (over o) l (a.0 ∙ sym b.0) a.1 b.1
open_reply-only limit kept o l n (order k) r s f g a b = one-state r s f g (over o) l (a.0 ∙ sym b.0) a.1 b.1
open_reply-only limit kept o l n (file word) r s f g a b = one-state r s f g (filing o (record { number = n; word = word; lines = [] })) l (a.0 ∙ sym b.0) a.1 b.1
open_reply-only limit kept o l n (load word) r s f g a b = load_reply-only limit kept o l n word r s f g a b
open_reply-only limit kept o l n (withdraw word) r s f g a b = withdraw-state o l word r s f g a b
open_reply-only limit kept o l n (query q) r s f g a b = one-state r s f g (over o) l (query_reply-only o l q r s a.0 b.0) a.1 b.1

opens-only : (limit : ℕ) (kept : List ℕ → Option (List ℕ)) (n : ℕ) (request : Request) (r s : Reply) (f g : State)
    → OpenedReply (told limit kept) n request r f → OpenedReply (told limit kept) n request s g → (r ≡ s) × (f ≡ g) × IsRightState f
opens-only limit kept n request r s f g a b =
    let same : b.0 ≡ a.0 = opens-one 4 b.0 a.0 b.1 a.1 in
    open_reply-only limit kept a.0 (rw a.1.order_is a.1.list) n request r s f g a.2 (subst (λ (o : Opened). OpenReply (told limit kept) o n request s g) same b.2)

first_reply-only : (limit : ℕ) (kept : List ℕ → Option (List ℕ)) (n : ℕ) (request : Request) (r s : Reply) (f g : State)
    → FirstReply (told limit kept) n request r f → FirstReply (told limit kept) n request s g → (r ≡ s) × (f ≡ g) × IsRightState f
unfolding IsRightState
first_reply-only limit kept n blank r s f g a b = (a.0 ∙ sym b.0, a.1 ∙ sym b.1, subst IsRightState (sym a.1) tt)
first_reply-only limit kept n (order k) r s f g a b =
    let same : a.0 ≡ b.0 = opens-one k a.0 b.0 a.1 b.1 in
    (a.2 ∙ sym b.2, a.3 ∙ ap over same ∙ sym b.3, subst IsRightState (sym a.3) (rw a.1.order_is a.1.list))
first_reply-only limit kept n long r s f g a b = opens-only limit kept n long r s f g a b
first_reply-only limit kept n bad r s f g a b = opens-only limit kept n bad r s f g a b
first_reply-only limit kept n (file w) r s f g a b = opens-only limit kept n (file w) r s f g a b
first_reply-only limit kept n (load w) r s f g a b = opens-only limit kept n (load w) r s f g a b
first_reply-only limit kept n (withdraw w) r s f g a b = opens-only limit kept n (withdraw w) r s f g a b
first_reply-only limit kept n (query q) r s f g a b = opens-only limit kept n (query q) r s f g a b

right-after : (o : Opened) (f : Filing) (line : LineText) (r : Reply) (after : State) → IsTheList o.laws.order o.laws.equations → BodyReply o f line r after → IsRightState after
unfolding IsRightState
right-after o f line r after l (goes_on t e x) = subst IsRightState (sym x) l
right-after o f line r after l (closes fs t e x) = subst IsRightState (sym x) l

-- a line has one reply, and leaves one state
pub Replies-only : (limit : ℕ) (kept : List ℕ → Option (List ℕ)) (before : State) → IsRightState before → (n : ℕ) (line : LineText) (r s : Reply) (f g : State)
    → Replies (told limit kept) before n line r f → Replies (told limit kept) before n line s g → (r ≡ s) × (f ≡ g) × IsRightState f
unfolding IsRightState
Replies-only limit kept unopened l n line r s f g a b = first_reply-only limit kept n (asked line) r s f g a b
Replies-only limit kept (over o) l n line r s f g a b = open_reply-only limit kept o l n (asked line) r s f g a b
Replies-only limit kept (filing o q) l n line r s f g a b = let one = body_reply-only o q l line r s f g a b in (one.0, one.1, right-after o q line r f l a)
Replies-only limit kept stopped l n line r s f g a b = (a.0 ∙ sym b.0, a.1 ∙ sym b.1, subst IsRightState (sym a.1) tt)

pub closes-only : (last : State) → IsRightState last → (r s : Reply) → Closes last r → Closes last s → r ≡ s
unfolding IsRightState
closes-only unopened l r s a b = a ∙ sym b
closes-only (over o) l r s a b = a ∙ sym b
closes-only (filing o f) l r s a b = (file_reply-only o f false l r s a.0 b.0 a.1 b.1).0
closes-only stopped l r s a b = a ∙ sym b

pub right_start : IsRightState unopened
unfolding IsRightState
right_start = tt
