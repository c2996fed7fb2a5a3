-- The printed ledger, line by line, gives the files again.
use Rattle.std.proofs.Common.{◌≡◌, ◌⊎◌, inl, inr, ℕ, ◌+◌, List, [], ◌∷◌, ◌++◌, All, true, false, ◌||◌, length, Some, codes, refl, sym, ap, subst, ◌∙◌, append_assoc, append-nil, arith}
use Rattle.std.specs.List.{AllByRecursion}
use Rattle.std.proofs.lemmas.List.Elements.{recursion_from_All}
use Rattle.etp_io.specs.Texts.{LineText, whole, lines_of}
use Rattle.etp_words.specs.Words.{words_of}
use Rattle.etp_laws.specs.Listing.{IsTheList}
use Rattle.etp_proof.specs.Names.{IsName}
use Rattle.etp_lines.specs.BodyLines.{opening}
use Rattle.etp_items.specs.Written.{written_body, HasFewLines}
use Rattle.etp_items.proofs.ReadBack.{words_front, words_last, name_word}
use Rattle.etp_check.specs.Checks.{fact_said}
use Rattle.etp_check.proofs.WrittenBack.{valid_body_reads}
use Rattle.etp_ledger.specs.Files.{File, cited_goals}
use Rattle.etp_ledger.specs.Accepting.{IsAccepted, AreAcceptedAfter}
use Rattle.etp_command.specs.Requests.{file, asked, request_of_words}
use Rattle.etp_print.specs.Texts.{Reply, silent, answered, reply_text, is_refusal}
use Rattle.etp_show.specs.Printed.{printed, printed_ledger}
use Rattle.etp_desk.specs.States.{Opened, Opens, Filing, State, unopened, over, filing}
use Rattle.etp_filing.specs.FileReplies.{accepted, goes_on, closes, closes_body, accepted_line}
use Rattle.etp_reply.specs.Shelves.{KnownShelf}
use Rattle.etp_reply.specs.Replies.{OpenReply, FirstReply, Replies, answered_line}
use Rattle.etp_serving.specs.Protocols.{ledger_protocol}
use Rattle.etp_serving.specs.Sessions.{items_from, items_of, Session}
use Rattle.etp_printed.specs.Printed.{WasRead, IsKept, HasState, GivesAgain}
use Rattle.etp_printed.proofs.Kept.{with_files}
use Rattle.etp_printed.proofs.PrintedLines.{line_then, file_line, printed_lines, body_goes_on}

module _ (s : KnownShelf) where
  -- the lines lead from one state to another, without a refusal
  abbrev pub Runs : State → List LineText → State → Type 0
  Runs a lines b = (n : ℕ) → (text : List ℕ) × Session (ledger_protocol s) a (items_from n lines) text false b

  stays : (a : State) → Runs a [] a
  stays a n = ([], (refl, refl, refl))

  -- one line, which isn't refused, and those behind it
  step : (a b : State) (line : LineText) (lines : List LineText)
      → ((n : ℕ) → (reply : Reply) × (middle : State) × Replies s a n line reply middle × (is_refusal reply ≡ false) × Runs middle lines b) → Runs a (line ∷ lines) b
  step a b line lines h n =
      let r = h n in
      let rest = r.4 (n + 1) in
      (reply_text (answered_line a n) r.0 ++ rest.0, (r.0, r.1, rest.0, false, r.2, rest.1, refl, sym (ap (λ b. b || false) r.3)))

  -- the lines of a body
  body_lines : (o : Opened) (f : Filing) (lines rest : List LineText) (b : State) → AllByRecursion (λ l. closes_body l ≡ false) lines
      → Runs (filing o (record { number = f.number; word = f.word; lines = f.lines ++ lines })) rest b → Runs (filing o f) (lines ++ rest) b
  body_lines o f [] rest b h k =
      subst (λ (ls : List LineText). Runs (filing o (record { number = f.number; word = f.word; lines = ls })) rest b) (append-nil f.lines) k
  body_lines o f (l ∷ lines) rest b h k =
      let next : Filing = record { number = f.number; word = f.word; lines = f.lines ++ l ∷ [] } in
      let more = subst (λ (ls : List LineText). Runs (filing o (record { number = f.number; word = f.word; lines = ls })) rest b) (sym (append_assoc f.lines (l ∷ []) lines)) k in
      step (filing o f) b l (lines ++ rest) (λ n. (silent, filing o next, goes_on h.0 refl refl, refl, body_lines o next lines rest b h.1 more))

  -- a line with a file opens its body
  abbrev pub CanOpen : State → Opened → Type 0
  CanOpen a o = (n : ℕ) (line : List ℕ) (word : List ℕ) → asked (whole line) ≡ file (Some word)
      → Replies s a n (whole line) silent (filing o (record { number = n; word = Some word; lines = [] }))

  over_opens : (o : Opened) → CanOpen (over o) o
  over_opens o n line word e = subst (λ r. OpenReply s o n r silent (filing o (record { number = n; word = Some word; lines = [] }))) (sym e) (refl, refl)

  first_opens : (o : Opened) → Opens 4 o → CanOpen unopened o
  first_opens o h n line word e =
      subst (λ r. FirstReply s n r silent (filing o (record { number = n; word = Some word; lines = [] }))) (sym e) (o, h, (refl, refl))

  asks_file : (name : List ℕ) → IsName name → asked (whole (file_line name)) ≡ file (Some name)
  asks_file name h =
      let w : words_of (file_line name) ≡ codes "file" ∷ name ∷ [] =
      words_front (codes "file") name (record { some = omega arith; graph = refl }) ∙ ap (λ z. codes "file" ∷ z) (words_last name (name_word name h)) in
      ap (request_of_words (file_line name)) w

  -- a file is read again
  one_file : (a b : State) (o : Opened) (f : File) (rest : List LineText) → CanOpen a o → IsAccepted o.laws.equations o.files f.name f.body
      → WasRead (length o.laws.equations) f → HasFewLines f.body
      → Runs (over (with_files o (o.files ++ f ∷ []))) rest b
      → Runs a (whole (file_line f.name) ∷ (lines_of (written_body f.body) ++ whole (codes "end") ∷ rest)) b
  one_file a b o f rest opens right read few more =
      let body = lines_of (written_body f.body) in
      let again = valid_body_reads o.laws.equations (cited_goals o.files f.body) (length o.laws.equations) read.lines true f.body read.read right.valid.valid.right few in
      step a b (whole (file_line f.name)) (body ++ whole (codes "end") ∷ rest) (λ n.
      let start : Filing = record { number = n; word = Some f.name; lines = [] } in
      let all : Filing = record { number = n; word = Some f.name; lines = body } in (
        silent,
        filing o start,
        opens n (file_line f.name) f.name (asks_file f.name right.spelled),
        refl,
        body_lines o start body (whole (codes "end") ∷ rest) b
            (body_goes_on body opening again.is_body.are_whole.come again.is_body.saids again.is_body.are_whole.reads)
            (step (filing o all) b (whole (codes "end")) rest (λ m. (
              answered (accepted_line f.name (fact_said f.body)),
              over (with_files o (o.files ++ f ∷ [])),
              closes (o.files ++ f ∷ []) refl
                  (accepted f.name f.body (record { word_is = refl; is_name = right.spelled; free = right.free }) again right refl refl) refl,
              refl,
              more,
            ))),
      ))

  -- and so are all files
  all_files : (files : List File) (o : Opened) → AreAcceptedAfter o.laws.equations o.files files → AllByRecursion (WasRead (length o.laws.equations)) files
      → AllByRecursion (λ f. HasFewLines f.body) files → Runs (over o) (lines_of (printed files)) (over (with_files o (o.files ++ files)))
  all_files [] o a r h = subst (λ (fs : List File). Runs (over o) [] (over (with_files o fs))) (sym (append-nil o.files)) (stays (over o))
  all_files (f ∷ files) o a r h =
      let next = with_files o (o.files ++ f ∷ []) in
      let rest : Runs (over next) (lines_of (printed files)) (over (with_files o (o.files ++ f ∷ files))) =
      subst (λ (fs : List File). Runs (over next) (lines_of (printed files)) (over (with_files o fs))) (append_assoc o.files (f ∷ []) files) (all_files files next a.1 r.1 h.1) in
      subst (λ (ls : List LineText). Runs (over o) ls (over (with_files o (o.files ++ f ∷ files)))) (sym (printed_lines f files a.0.spelled))
      (one_file (over o) (over (with_files o (o.files ++ f ∷ files))) o f (lines_of (printed files)) (over_opens o) a.0 r.0 h.0 rest)

  -- the laws without files
  abbrev empty : Opened → Opened
  empty o = with_files o []

  opens_empty : (o : Opened) (k : ℕ) → o.laws.order ≡ k → IsKept o → Opens k (empty o)
  opens_empty o k e h = record {
    order_is = e;
    list = subst (λ n. IsTheList n o.laws.equations) e h.list;
    dual_numbers = h.dual_numbers;
    no_files = refl;
  }

  of_four : (o : Opened) (files : List File) → o.laws.order ≡ 4 → IsKept o → AreAcceptedAfter o.laws.equations [] files → AllByRecursion (WasRead (length o.laws.equations)) files
      → AllByRecursion (λ f. HasFewLines f.body) files → (last : State) × Runs unopened (lines_of (printed files)) last × HasState (with_files o files) last
  of_four o [] e k a r h = (unopened, stays unopened, (e, refl))
  of_four o (f ∷ files) e k a r h =
      let last = over (with_files o (f ∷ files)) in (
        last,
        subst (λ (ls : List LineText). Runs unopened ls last) (sym (printed_lines f files a.0.spelled))
            (one_file unopened last (empty o) f (lines_of (printed files)) (first_opens (empty o) (opens_empty o 4 e k)) a.0 r.0 h.0
            (all_files files (with_files o (f ∷ [])) a.1 r.1 h.1)),
        refl,
      )

  of_five : (o : Opened) → o.laws.order ≡ 5 → IsKept o → AllByRecursion (WasRead (length o.laws.equations)) o.files
      → AllByRecursion (λ f. HasFewLines f.body) o.files → Runs unopened (whole (codes "order 5") ∷ lines_of (printed o.files)) (over o)
  of_five o e k r h =
      step unopened (over o) (whole (codes "order 5")) (lines_of (printed o.files)) (λ n.
      (silent, over (empty o), (empty o, opens_empty o 5 e k, refl, refl), refl, all_files o.files (empty o) k.accepted r h))

pub again : (o : Opened) → IsKept o → All (λ file. HasFewLines file.body) o.files → GivesAgain (printed_ledger o.laws.order o.files) o
again o k few s = by k.order_known
  where
    read : AllByRecursion (WasRead (length o.laws.equations)) o.files
    read = recursion_from_All (WasRead (length o.laws.equations)) o.files k.read

    by : (o.laws.order ≡ 4) ⊎ (o.laws.order ≡ 5) → (text : List ℕ) × (last : State) × Session (ledger_protocol s) unopened (items_of (printed_ledger o.laws.order o.files)) text false last × HasState o last
    by (inl e) =
        let r = of_four s o o.files e k k.accepted read (recursion_from_All (λ (f : File). HasFewLines f.body) o.files few) in
        let t = r.1 1 in
        (t.0, r.0, subst (λ n. Session (ledger_protocol s) unopened (items_of (printed_ledger n o.files)) t.0 false r.0) (sym e) t.1, r.2)
    by (inr e) =
        let r = of_five s o e k read (recursion_from_All (λ (f : File). HasFewLines f.body) o.files few) in
        let t = r 1 in
        let lines : lines_of (codes "order 5" ++ 10 ∷ printed o.files) ≡ whole (codes "order 5") ∷ lines_of (printed o.files) = line_then (codes "order 5") (printed o.files) refl (omega arith) in (
          t.0,
          over o,
          subst (λ n. Session (ledger_protocol s) unopened (items_of (printed_ledger n o.files)) t.0 false (over o)) (sym e)
              (subst (λ (ls : List LineText). Session (ledger_protocol s) unopened (items_from 1 ls) t.0 false (over o)) (sym lines) t.1),
          refl,
        )
