-- Which request a value of the program stands for.
use Rattle.std.specs.Prelude.{ℕ, ◌≤◌, length}
use Rattle.std.specs.Option.{option_copied}
use Rattle.etp_command.specs.Requests as Requests
use Rattle.etp_command.specs.declared.query.Query.{Query}
use Rattle.etp_command.specs.declared.query.Query.TheVariants.{Law, Number, Dual, Ask, Why, Files, Counts, Row, Class, Classes, Csv, Ledger, Profile}
use Rattle.etp_command.specs.declared.request.Request.{Request}
use Rattle.etp_command.specs.declared.request.Request.TheVariants as Program
use Rattle.etp_command.specs.declared.request.ListOrder.{ListOrder}
use Rattle.etp_command.specs.declared.request.ListOrder.TheVariants.{Four, Five}

-- the most operations of a law
abbrev pub operations_of : ListOrder → ℕ
operations_of Four = 4
operations_of Five = 5

abbrev pub query_from : Query → Requests.Query
query_from (Law n) = Requests.law n
query_from (Number text) = Requests.number text.now
query_from (Dual n) = Requests.dual n
query_from (Ask e f) = Requests.ask e f
query_from (Why e f) = Requests.why e f
query_from Files = Requests.files
query_from Counts = Requests.counts
query_from (Row n) = Requests.row n
query_from (Class n) = Requests.class n
query_from Classes = Requests.classes
query_from (Csv first last) = Requests.csv first last
query_from Ledger = Requests.ledger
query_from (Profile word) = Requests.profile word.now

abbrev pub request_from : Request → Requests.Request
request_from Program.Blank = Requests.blank
request_from Program.Long = Requests.long
request_from Program.Bad = Requests.bad
request_from (Program.Order k) = Requests.order (operations_of k)
request_from (Program.File word) = Requests.file (option_copied word)
request_from (Program.Load word) = Requests.load word.now
request_from (Program.Withdraw word) = Requests.withdraw word.now
request_from (Program.Query q) = Requests.query (query_from q)

-- the text of `number` has at most so many bytes
abbrev pub IsQueryWithin : ℕ → Query → Type 0
IsQueryWithin most (Number text) = length text.now ≤ most
IsQueryWithin most _ = Unit {0}

abbrev pub IsWithin : ℕ → Request → Type 0
IsWithin most (Program.Query q) = IsQueryWithin most q
IsWithin most _ = Unit {0}
