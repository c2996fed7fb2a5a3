-- What a line is answered.
use Rattle.std.specs.Prelude.{◌≡◌, ℕ, List, [], ◌++◌, codes, true, false, Some}
use Rattle.std.specs.declared.option.Option.{Option}
use Rattle.etp_theory.specs.LawNumbers.{law_numbered}
use Rattle.etp_io.specs.Texts.{LineText}
use Rattle.etp_ledger.specs.Files.{File}
use Rattle.etp_command.specs.Requests.{Query, law, number, dual, ask, why, files, counts, row, class, classes, csv, ledger, profile, Request, blank, long, bad, order, file, load, withdraw, query, asked}
use Rattle.etp_print.specs.Texts.{Reply, silent, answered, refused}
use Rattle.etp_show.specs.LawReplies.{law_reply, NumberReply, DualReply}
use Rattle.etp_show.specs.FileLists.{files_text}
use Rattle.etp_show.specs.Printed.{printed_ledger}
use Rattle.etp_profile.specs.ProfileReplies.{ProfileReply}
use Rattle.etp_survey.specs.PairReplies.{AskReply, CountsReply, RowReply, ClassReply, ClassesReply, CsvReply}
use Rattle.etp_evidence.specs.WhyReplies.{WhyReply}
use Rattle.etp_desk.specs.States.{Opened, Opens, State, unopened, over, filing, stopped}
use Rattle.etp_filing.specs.FileReplies.{BodyReply, FileReply, HasFreeName}
use Rattle.etp_filing.specs.Filings.{loading}
use Rattle.etp_filing.specs.Withdrawals.{WithdrawReply}
use Rattle.etp_reply.specs.Shelves.{KnownShelf, IsLoaded, HasNoLines}

-- a query has this reply, and changes nothing
abbrev pub QueryReply : Opened → Query → Reply → Type 0
QueryReply o (law n) reply = reply ≡ law_reply n (law_numbered o.laws.equations n)
QueryReply o (number text) reply = NumberReply o.laws.order o.laws.equations text reply
QueryReply o (dual n) reply = DualReply o.laws.equations n (law_numbered o.laws.equations n) reply
QueryReply o (ask e f) reply = AskReply o.laws o.files e f reply
QueryReply o (why e f) reply = WhyReply o.laws o.files e f reply
QueryReply o files reply = reply ≡ answered (files_text o.files)
QueryReply o counts reply = CountsReply o.laws o.files reply
QueryReply o (row e) reply = RowReply o.laws o.files e reply
QueryReply o (class e) reply = ClassReply o.laws o.files e reply
QueryReply o classes reply = ClassesReply o.laws o.files reply
QueryReply o (csv first last) reply = CsvReply o.laws o.files first last reply
QueryReply o ledger reply = reply ≡ answered (printed_ledger o.laws.order o.files)
QueryReply o (profile word) reply = ProfileReply o.laws.order o.laws.equations o.files word reply

-- The reply to line n, which loads a file. The shelf is reached only where the word is a name and is
-- free; the whole bytes of the name are then the body, which their end closes. Where the name isn't
-- there, or has more bytes than the limit, the text is over.
pub data LoadReply (s : KnownShelf) (o : Opened) (n : ℕ) (word : List ℕ) (reply : Reply) (after : State) : Type 0 where
  unreached : (files : List File) → (HasFreeName o.files (Some word) word → ⊥) → FileReply o (loading n word []) true reply files
      → after ≡ over (record { laws = o.laws; files = files }) → LoadReply s o n word reply after
  loaded : (lines : List LineText) (files : List File) → HasFreeName o.files (Some word) word → IsLoaded s word lines
      → FileReply o (loading n word lines) true reply files
      → after ≡ over (record { laws = o.laws; files = files }) → LoadReply s o n word reply after
  missing : HasFreeName o.files (Some word) word → HasNoLines s word → reply ≡ silent → after ≡ stopped → LoadReply s o n word reply after

-- the reply to line n once the laws stand
abbrev pub OpenReply : KnownShelf → Opened → ℕ → Request → Reply → State → Type 0
OpenReply s o n blank reply after = (reply ≡ silent) × (after ≡ over o)
OpenReply s o n long reply after = (reply ≡ refused (codes "long line")) × (after ≡ over o)
OpenReply s o n bad reply after = (reply ≡ refused (codes "bad line")) × (after ≡ over o)
OpenReply s o n (order k) reply after = (reply ≡ refused (codes "bad line")) × (after ≡ over o)
OpenReply s o n (file word) reply after = (reply ≡ silent) × (after ≡ filing o (record { number = n; word = word; lines = [] }))
OpenReply s o n (load word) reply after = LoadReply s o n word reply after
OpenReply s o n (withdraw word) reply after = (files : List File) × WithdrawReply o.files word reply files × (after ≡ over (record { laws = o.laws; files = files }))
OpenReply s o n (query q) reply after = QueryReply o q reply × (after ≡ over o)

-- the reply to line n for which the list of order 4 is opened
abbrev pub OpenedReply : KnownShelf → ℕ → Request → Reply → State → Type 0
OpenedReply s n request reply after = (o : Opened) × Opens 4 o × OpenReply s o n request reply after

-- The reply to line n where nothing stands yet. The first that isn't blank may be `order`; it sets the
-- order, which is 4 otherwise, and writes nothing.
abbrev pub FirstReply : KnownShelf → ℕ → Request → Reply → State → Type 0
FirstReply s n blank reply after = (reply ≡ silent) × (after ≡ unopened)
FirstReply s n (order k) reply after = (o : Opened) × Opens k o × (reply ≡ silent) × (after ≡ over o)
FirstReply s n request reply after = OpenedReply s n request reply after

-- line n has this reply and leaves this state
abbrev pub Replies : KnownShelf → State → ℕ → LineText → Reply → State → Type 0
Replies s unopened n line reply after = FirstReply s n (asked line) reply after
Replies s (over o) n line reply after = OpenReply s o n (asked line) reply after
Replies s (filing o f) n line reply after = BodyReply o f line reply after
Replies s stopped n line reply after = (reply ≡ silent) × (after ≡ stopped)

-- the request loads a file, and its name is free
abbrev pub LoadsName : List File → Request → List ℕ → Type 0
LoadsName standing request name = (request ≡ load name) × HasFreeName standing (Some name) name

-- the line loads a file, and the shelf is reached for this name
abbrev pub Reaches : State → LineText → List ℕ → Type 0
Reaches unopened line name = LoadsName [] (asked line) name
Reaches (over o) line name = LoadsName o.files (asked line) name
Reaches _ line name = ⊥

-- the source ends here: a body that is being read isn't closed
abbrev pub Closes : State → Reply → Type 0
Closes (filing o f) reply = (after : List File) × FileReply o f false reply after
Closes _ reply = reply ≡ silent

-- the number of the line that is answered: that of the file where a body is read
abbrev pub answered_line : State → ℕ → ℕ
answered_line (filing o f) n = f.number
answered_line _ n = n
