-- What stands in a session is kept by each reply.
use Rattle.std.proofs.Common.{◌≡◌, ◌⊎◌, inl, inr, ℕ, List, [], ◌∷◌, All, Bool, true, false, cond, if◌then◌else◌, length, nat_eq, codes, Option, None, Some, refl, sym, subst}
use Rattle.std.specs.List.{AllByRecursion}
use Rattle.std.proofs.lemmas.List.Elements.{All-nil, All-cons, All-append, recursion_from_All, All-from_recursion}
use Rattle.etp_io.specs.Texts.{LineText, whole, too_long}
use Rattle.etp_words.specs.Words.{words_of, behind_first, is_word, is_comment}
use Rattle.etp_laws.specs.Listing.{IsTheList}
use Rattle.etp_items.specs.Reading.{IsReadBody}
use Rattle.etp_ledger.specs.Files.{File, is_named}
use Rattle.etp_ledger.specs.Withdrawing.{without}
use Rattle.etp_ledger.specs.Accepting.{AreAccepted}
use Rattle.etp_ledger.proofs.Accepted.{accepted_more}
use Rattle.etp_ledger.proofs.Withdrawn.{withdrawn_accepted}
use Rattle.etp_command.specs.Requests.{Query, query_of, Request, blank, long, bad, order, file, load, withdraw, query, order_request, load_request, withdraw_request, query_request, only_word, only_number, request_of_words, asked}
use Rattle.etp_print.specs.Texts.{Reply}
use Rattle.etp_desk.specs.States.{Opened, Opens, Filing, State, unopened, over, filing, stopped}
use Rattle.etp_filing.specs.FileReplies.{FileReply, no_name, name_taken, no_body, not_accepted, accepted, BodyReply, goes_on, closes}
use Rattle.etp_filing.specs.Filings.{loading}
use Rattle.etp_filing.specs.Withdrawals as Withdrawals
use Rattle.etp_filing.specs.Withdrawals.{WithdrawReply}
use Rattle.etp_reply.specs.Shelves.{KnownShelf}
use Rattle.etp_reply.specs.Replies.{LoadReply, unreached, loaded, missing, OpenReply, OpenedReply, FirstReply, Replies}
use Rattle.etp_serving.specs.Protocols.{ledger_protocol}
use Rattle.etp_serving.specs.Sessions.{Item, items_of, Session}
use Rattle.etp_printed.specs.Printed.{WasRead, IsKept}

-- the laws with other files
abbrev pub with_files : Opened → List File → Opened
with_files o files = record { laws = o.laws; files = files }

-- a line has the order 4 or 5, where it has one
either_way : {A : Type 0} (b : Bool) (x y z : A) → (if b then x else y) ≡ z → (x ≡ z) ⊎ (y ≡ z)
either_way true x y z h = inl h
either_way false x y z h = inr h

of_number : (n : Option ℕ) (k : ℕ) → order_request n ≡ order k → (k ≡ 4) ⊎ (k ≡ 5)
of_number None k h = absurd (cc)
of_number (Some n) k h = by (either_way (nat_eq n 4) (order 4) (if nat_eq n 5 then order 5 else bad) (order k) h)
  where
    by : (order 4 ≡ order k) ⊎ ((if nat_eq n 5 then order 5 else bad) ≡ order k) → (k ≡ 4) ⊎ (k ≡ 5)
    by (inl e) = inl (cc)
    by (inr e) = other (either_way (nat_eq n 5) (order 5) bad (order k) e)
      where
        other : (order 5 ≡ order k) ⊎ (bad ≡ order k) → (k ≡ 4) ⊎ (k ≡ 5)
        other (inl f) = inr (cc)
        other (inr f) = absurd (cc)

no_load : (w : Option (List ℕ)) (k : ℕ) → load_request w ≡ order k → ⊥
no_load None k h = cc
no_load (Some w) k h = cc

no_withdrawal : (w : Option (List ℕ)) (k : ℕ) → withdraw_request w ≡ order k → ⊥
no_withdrawal None k h = cc
no_withdrawal (Some w) k h = cc

no_query : (q : Option Query) (k : ℕ) → query_request q ≡ order k → ⊥
no_query None k h = cc
no_query (Some q) k h = cc

order_of_words : (line : List ℕ) (words : List (List ℕ)) (k : ℕ) → request_of_words line words ≡ order k → (k ≡ 4) ⊎ (k ≡ 5)
order_of_words line [] k h = absurd (cc)
order_of_words line (word ∷ words) k h = first (either_way (is_comment word) _ _ (order k) h)
  where
    fifth : (withdraw_request (only_word words) ≡ order k) ⊎ (query_request (query_of word (behind_first line) words) ≡ order k) → (k ≡ 4) ⊎ (k ≡ 5)
    fifth (inl e) = absurd (no_withdrawal (only_word words) k e)
    fifth (inr e) = absurd (no_query (query_of word (behind_first line) words) k e)

    fourth : (load_request (only_word words) ≡ order k) ⊎ ((if is_word word (codes "withdraw") then withdraw_request (only_word words) else query_request (query_of word (behind_first line) words)) ≡ order k) → (k ≡ 4) ⊎ (k ≡ 5)
    fourth (inl e) = absurd (no_load (only_word words) k e)
    fourth (inr e) = fifth (either_way (is_word word (codes "withdraw")) _ _ (order k) e)

    third : (file (only_word words) ≡ order k) ⊎ ((if is_word word (codes "load") then load_request (only_word words) else
        (if is_word word (codes "withdraw") then withdraw_request (only_word words) else query_request (query_of word (behind_first line) words))) ≡ order k) → (k ≡ 4) ⊎ (k ≡ 5)
    third (inl e) = absurd (cc)
    third (inr e) = fourth (either_way (is_word word (codes "load")) _ _ (order k) e)

    second : (order_request (only_number words) ≡ order k) ⊎ ((if is_word word (codes "file") then file (only_word words) else
        (if is_word word (codes "load") then load_request (only_word words) else
        (if is_word word (codes "withdraw") then withdraw_request (only_word words) else query_request (query_of word (behind_first line) words)))) ≡ order k) → (k ≡ 4) ⊎ (k ≡ 5)
    second (inl e) = of_number (only_number words) k e
    second (inr e) = third (either_way (is_word word (codes "file")) _ _ (order k) e)

    first : (blank ≡ order k) ⊎ ((if is_word word (codes "order") then order_request (only_number words) else
        (if is_word word (codes "file") then file (only_word words) else
        (if is_word word (codes "load") then load_request (only_word words) else
        (if is_word word (codes "withdraw") then withdraw_request (only_word words) else query_request (query_of word (behind_first line) words))))) ≡ order k) → (k ≡ 4) ⊎ (k ≡ 5)
    first (inl e) = absurd (cc)
    first (inr e) = second (either_way (is_word word (codes "order")) _ _ (order k) e)

order_known : (line : LineText) (k : ℕ) → asked line ≡ order k → (k ≡ 4) ⊎ (k ≡ 5)
order_known too_long k h = absurd (cc)
order_known (whole line) k h = order_of_words line (words_of line) k h

-- the list of an order without files
opens_kept : (k : ℕ) (o : Opened) → (k ≡ 4) ⊎ (k ≡ 5) → Opens k o → IsKept o
opens_kept k o known opens = record {
  order_known = subst (λ n. (n ≡ 4) ⊎ (n ≡ 5)) (sym opens.order_is) known;
  list = subst (λ n. IsTheList n o.laws.equations) (sym opens.order_is) opens.list;
  dual_numbers = opens.dual_numbers;
  accepted = subst (AreAccepted o.laws.equations) (sym opens.no_files) tt;
  read = subst (All (WasRead (length o.laws.equations))) (sym opens.no_files) (All-nil (WasRead (length o.laws.equations)));
}

same_files : (o : Opened) (after : List File) → after ≡ o.files → IsKept o → IsKept (with_files o after)
same_files o after e k = subst (λ (fs : List File). IsKept (with_files o fs)) (sym e) (record {
  order_known = k.order_known;
  list = k.list;
  dual_numbers = k.dual_numbers;
  accepted = k.accepted;
  read = k.read;
})

-- one file more, or none
file_kept : (o : Opened) (f : Filing) (closed : Bool) (reply : Reply) (after : List File) → IsKept o → FileReply o f closed reply after → IsKept (with_files o after)
file_kept o f closed reply after k (no_name h e a) = same_files o after a k
file_kept o f closed reply after k (name_taken name w n s e a) = same_files o after a k
file_kept o f closed reply after k (no_body name r n h e a) = same_files o after a k
file_kept o f closed reply after k (not_accepted name body r n h i j e a) = same_files o after a k
file_kept o f closed reply after k (accepted name body n h i e a) =
    let one : WasRead (length o.laws.equations) (record { name = name; body = body }) =
    record { lines = f.lines; read = subst (λ c. IsReadBody (length o.laws.equations) f.lines c body) h.is_closed h } in
    subst (λ (fs : List File). IsKept (with_files o fs)) (sym a) (record {
      order_known = k.order_known;
      list = k.list;
      dual_numbers = k.dual_numbers;
      accepted = accepted_more o.laws.equations [] o.files (record { name = name; body = body }) k.accepted i;
      read = All-append (WasRead (length o.laws.equations)) o.files _ k.read
          (All-cons (WasRead (length o.laws.equations)) _ [] one (All-nil (WasRead (length o.laws.equations))));
    })

-- one file less
all_without : (P : File → Type 0) (name : List ℕ) (files : List File) → AllByRecursion P files → AllByRecursion P (without name files)
all_without P name [] h = tt
all_without P name (f ∷ files) h = by (is_named name f) (all_without P name files h.1)
  where
    by : (b : Bool) → AllByRecursion P (without name files) → AllByRecursion P (cond b files (f ∷ without name files))
    by true rest = h.1
    by false rest = (h.0, rest)

withdraw_kept : (o : Opened) (word : List ℕ) (reply : Reply) (after : List File) → IsKept o → WithdrawReply o.files word reply after → IsKept (with_files o after)
withdraw_kept o word reply after k (Withdrawals.no_name h e a) = same_files o after a k
withdraw_kept o word reply after k (Withdrawals.unknown_name n u e a) = same_files o after a k
withdraw_kept o word reply after k (Withdrawals.cited at by n s c t e a) = same_files o after a k
withdraw_kept o word reply after k (Withdrawals.withdrawn n w e) =
    let P = WasRead (length o.laws.equations) in
    record {
      order_known = k.order_known;
      list = k.list;
      dual_numbers = k.dual_numbers;
      accepted = subst (AreAccepted o.laws.equations) (sym w.gone) (withdrawn_accepted o.laws.equations word o.files w.uncited k.accepted);
      read = subst (All P) (sym w.gone) (All-from_recursion P (without word o.files) (all_without P word o.files (recursion_from_All P o.files k.read)));
    }

-- what stands in a state is kept
abbrev pub IsKeptIn : State → Type 0
IsKeptIn unopened = Unit {0}
IsKeptIn (over o) = IsKept o
IsKeptIn (filing o f) = IsKept o
IsKeptIn stopped = Unit {0}

load_kept : (s : KnownShelf) (o : Opened) (n : ℕ) (word : List ℕ) (reply : Reply) (after : State) → IsKept o → LoadReply s o n word reply after → IsKeptIn after
load_kept s o n word reply after k (unreached files h r a) = subst IsKeptIn (sym a) (file_kept o (loading n word []) true reply files k r)
load_kept s o n word reply after k (loaded lines files h l r a) = subst IsKeptIn (sym a) (file_kept o (loading n word lines) true reply files k r)
load_kept s o n word reply after k (missing h l e a) = subst IsKeptIn (sym a) tt

open_kept : (s : KnownShelf) (o : Opened) (n : ℕ) (request : Request) (reply : Reply) (after : State) → IsKept o → OpenReply s o n request reply after → IsKeptIn after
open_kept s o n blank reply after k h = subst IsKeptIn (sym h.1) k
open_kept s o n long reply after k h = subst IsKeptIn (sym h.1) k
open_kept s o n bad reply after k h = subst IsKeptIn (sym h.1) k
open_kept s o n (order m) reply after k h = subst IsKeptIn (sym h.1) k
open_kept s o n (file word) reply after k h = subst IsKeptIn (sym h.1) k
open_kept s o n (load word) reply after k h = load_kept s o n word reply after k h
open_kept s o n (withdraw word) reply after k h = subst IsKeptIn (sym h.2) (withdraw_kept o word reply h.0 k h.1)
open_kept s o n (query q) reply after k h = subst IsKeptIn (sym h.1) k

opened_kept : (s : KnownShelf) (n : ℕ) (request : Request) (reply : Reply) (after : State) → OpenedReply s n request reply after → IsKeptIn after
opened_kept s n request reply after h = open_kept s h.0 n request reply after (opens_kept 4 h.0 (inl refl) h.1) h.2

first_kept : (s : KnownShelf) (n : ℕ) (request : Request) (reply : Reply) (after : State) → ((k : ℕ) → request ≡ order k → (k ≡ 4) ⊎ (k ≡ 5))
    → FirstReply s n request reply after → IsKeptIn after
first_kept s n blank reply after known h = subst IsKeptIn (sym h.1) tt
first_kept s n (order k) reply after known h = subst IsKeptIn (sym h.3) (opens_kept k h.0 (known k refl) h.1)
first_kept s n long reply after known h = opened_kept s n long reply after h
first_kept s n bad reply after known h = opened_kept s n bad reply after h
first_kept s n (file word) reply after known h = opened_kept s n (file word) reply after h
first_kept s n (load word) reply after known h = opened_kept s n (load word) reply after h
first_kept s n (withdraw word) reply after known h = opened_kept s n (withdraw word) reply after h
first_kept s n (query q) reply after known h = opened_kept s n (query q) reply after h

body_kept : (o : Opened) (f : Filing) (line : LineText) (reply : Reply) (after : State) → IsKept o → BodyReply o f line reply after → IsKeptIn after
body_kept o f line reply after k (goes_on c r a) = subst IsKeptIn (sym a) k
body_kept o f line reply after k (closes files c r a) = subst IsKeptIn (sym a) (file_kept o f true reply files k r)

reply_kept : (s : KnownShelf) (first : State) (n : ℕ) (line : LineText) (reply : Reply) (after : State) → IsKeptIn first → Replies s first n line reply after → IsKeptIn after
reply_kept s unopened n line reply after k h = first_kept s n (asked line) reply after (order_known line) h
reply_kept s (over o) n line reply after k h = open_kept s o n (asked line) reply after k h
reply_kept s (filing o f) n line reply after k h = body_kept o f line reply after k h
reply_kept s stopped n line reply after k h = subst IsKeptIn (sym h.1) tt

session_kept : (s : KnownShelf) (first : State) (items : List Item) (text : List ℕ) (refused : Bool) (last : State) → IsKeptIn first
    → Session (ledger_protocol s) first items text refused last → IsKeptIn last
session_kept s first [] text refused last k h = subst IsKeptIn (sym h.2) k
session_kept s first (item ∷ items) text refused last k (reply, middle, rest, also, r, h, t, b) =
    session_kept s middle items rest also last (reply_kept s first item.number item.line reply middle k r) h

pub kept : (s : KnownShelf) (bytes text : List ℕ) (refused : Bool) (o : Opened) → Session (ledger_protocol s) unopened (items_of bytes) text refused (over o) → IsKept o
kept s bytes text refused o h = session_kept s unopened (items_of bytes) text refused (over o) tt h
