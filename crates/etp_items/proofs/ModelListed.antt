-- The law numbers of claims and those of their lines.
use Rattle.std.proofs.Common.{◌≡◌, ℕ, zero, suc, List, [], ◌∷◌, ◌++◌, length, drop, map, All, ap, subst, ◌∙◌}
use Rattle.std.specs.List.{concat, AllByRecursion}
use Rattle.std.proofs.lemmas.List.Elements.{All-nil, All-cons, All-append, All-take, All-drop, All-head, All-tail}
use Rattle.etp_theory.specs.LawNumbers.{IsLaw}
use Rattle.etp_reading.specs.Reading.{AreListed}
use Rattle.etp_lines.specs.TableLines.{TableLine, table, row}
use Rattle.etp_lines.specs.MatrixLines.{MatrixLine}
use Rattle.etp_lines.specs.RulesLines.{RulesLine, system_lines}
use Rattle.etp_lines.specs.Claims.{ClaimLine, holds, fails, Claims}
use Rattle.etp_lines.specs.BodyLines.{Line, table_line, linear_line, matrix_line, rules_line, claim_line, numbers_of, bodies}
use Rattle.etp_items.specs.Bodies as Bodies
use Rattle.etp_items.specs.Bodies.{Model}
use Rattle.etp_items.specs.Reading.{SaysModel, SaysClaimed}
use Rattle.etp_items.specs.Written.{pieces, cut, matrix_lines, claim_lines}
use Rattle.etp_items.proofs.ModelReads.{head_lines, model_lines}

-- the law numbers of a line are listed
abbrev pub HasListed : ℕ → Line → Type 0
HasListed count l = All (IsLaw count) (numbers_of l)

tables_past : (count : ℕ) (ts : List TableLine) (ls : List Line) → AreListed bodies count (map table_line ts ++ ls) → AreListed bodies count ls
tables_past count [] ls h = h
tables_past count (t ∷ ts) ls h = tables_past count ts ls (All-tail (HasListed count) (table_line t) (map table_line ts ++ ls) h)

matrices_past : (count : ℕ) (ms : List MatrixLine) (ls : List Line) → AreListed bodies count (map matrix_line ms ++ ls) → AreListed bodies count ls
matrices_past count [] ls h = h
matrices_past count (m ∷ ms) ls h = matrices_past count ms ls (All-tail (HasListed count) (matrix_line m) (map matrix_line ms ++ ls) h)

rules_past : (count : ℕ) (ms : List RulesLine) (ls : List Line) → AreListed bodies count (map rules_line ms ++ ls) → AreListed bodies count ls
rules_past count [] ls h = h
rules_past count (m ∷ ms) ls h = rules_past count ms ls (All-tail (HasListed count) (rules_line m) (map rules_line ms ++ ls) h)

-- the lines of a magma have no law numbers
head_past : (count : ℕ) (head : List Line) (m : Model) (ls : List Line) → SaysModel head m → AreListed bodies count (head ++ ls) → AreListed bodies count ls
head_past count head (Bodies.table size entries) ls (lines, e, s) h = tables_past count lines ls (subst (λ (z : List Line). AreListed bodies count (z ++ ls)) e h)
head_past count head (Bodies.matrix g) ls (lines, e, s) h = matrices_past count lines ls (subst (λ (z : List Line). AreListed bodies count (z ++ ls)) e h)
head_past count head (Bodies.rules w rs) ls e h = rules_past count (system_lines w rs) ls (subst (λ (z : List Line). AreListed bodies count (z ++ ls)) e h)
head_past count head (Bodies.linear l) ls e h = All-tail (HasListed count) (linear_line l) ls (subst (λ (z : List Line). AreListed bodies count (z ++ ls)) e h)

held_listed : (count : ℕ) (hs : List (List ℕ)) (rest : List ClaimLine) → AreListed bodies count (map claim_line (map holds hs ++ rest)) → All (IsLaw count) (concat hs) × AreListed bodies count (map claim_line rest)
held_listed count [] rest h = (All-nil (IsLaw count), h)
held_listed count (k ∷ hs) rest h =
    let more = map claim_line (map holds hs ++ rest) in
    let on = held_listed count hs rest (All-tail (HasListed count) (claim_line (holds k)) more h) in
    (All-append (IsLaw count) k (concat hs) (All-head (HasListed count) (claim_line (holds k)) more h) on.0, on.1)

failed_listed : (count : ℕ) (fs : List (List ℕ)) → AreListed bodies count (map claim_line (map fails fs)) → All (IsLaw count) (concat fs)
failed_listed count [] h = All-nil (IsLaw count)
failed_listed count (f ∷ fs) h =
    let more = map claim_line (map fails fs) in
    All-append (IsLaw count) f (concat fs) (All-head (HasListed count) (claim_line (fails f)) more h) (failed_listed count fs (All-tail (HasListed count) (claim_line (fails f)) more h))

pub model_numbers : (count : ℕ) (saids : List Line) (m : Model) (c : Claims) → SaysClaimed saids m c → AreListed bodies count saids → All (IsLaw count) (c.holds ++ c.fails)
model_numbers count saids m c s listed =
    let e = s.says_claims in
    let rest = map claim_line (map holds e.held ++ map fails e.failed) in
    let whole : saids ≡ s.head ++ rest = s.whole ∙ ap (λ z. s.head ++ map claim_line z) e.whole in
    let held = held_listed count e.held (map fails e.failed) (head_past count s.head m rest s.says_model (subst (AreListed bodies count) whole listed)) in
    All-append (IsLaw count) c.holds c.fails (rw e.holds_are held.0) (rw e.fails_are (failed_listed count e.failed held.1))

pieces_listed : (count n k : ℕ) (xs : List ℕ) → All (IsLaw count) xs → AllByRecursion (All (IsLaw count)) (pieces n k xs)
pieces_listed count n k [] h = tt
pieces_listed count n zero (x ∷ xs) h = tt
pieces_listed count n (suc k) (x ∷ xs) h = (All-take (IsLaw count) n (x ∷ xs) h, pieces_listed count n k (drop n (x ∷ xs)) (All-drop (IsLaw count) n (x ∷ xs) h))

fails_back : (count : ℕ) (fs : List (List ℕ)) → AllByRecursion (All (IsLaw count)) fs → AreListed bodies count (map claim_line (map fails fs))
fails_back count [] h = All-nil (HasListed count)
fails_back count (f ∷ fs) h = All-cons (HasListed count) (claim_line (fails f)) (map claim_line (map fails fs)) h.0 (fails_back count fs h.1)

holds_back : (count : ℕ) (hs : List (List ℕ)) (rest : List ClaimLine) → AllByRecursion (All (IsLaw count)) hs → AreListed bodies count (map claim_line rest) → AreListed bodies count (map claim_line (map holds hs ++ rest))
holds_back count [] rest h k = k
holds_back count (x ∷ hs) rest h k = All-cons (HasListed count) (claim_line (holds x)) (map claim_line (map holds hs ++ rest)) h.0 (holds_back count hs rest h.1 k)

tables_back : (count : ℕ) (ts : List TableLine) (ls : List Line) → AreListed bodies count ls → AreListed bodies count (map table_line ts ++ ls)
tables_back count [] ls h = h
tables_back count (t ∷ ts) ls h = All-cons (HasListed count) (table_line t) (map table_line ts ++ ls) (All-nil (IsLaw count)) (tables_back count ts ls h)

matrices_back : (count : ℕ) (ms : List MatrixLine) (ls : List Line) → AreListed bodies count ls → AreListed bodies count (map matrix_line ms ++ ls)
matrices_back count [] ls h = h
matrices_back count (m ∷ ms) ls h = All-cons (HasListed count) (matrix_line m) (map matrix_line ms ++ ls) (All-nil (IsLaw count)) (matrices_back count ms ls h)

rules_back : (count : ℕ) (ms : List RulesLine) (ls : List Line) → AreListed bodies count ls → AreListed bodies count (map rules_line ms ++ ls)
rules_back count [] ls h = h
rules_back count (m ∷ ms) ls h = All-cons (HasListed count) (rules_line m) (map rules_line ms ++ ls) (All-nil (IsLaw count)) (rules_back count ms ls h)

head_back : (count : ℕ) (m : Model) (ls : List Line) → AreListed bodies count ls → AreListed bodies count (head_lines m ++ ls)
head_back count (Bodies.table size entries) ls h = tables_back count (table size ∷ map row (cut size entries)) ls h
head_back count (Bodies.matrix g) ls h = matrices_back count (matrix_lines g) ls h
head_back count (Bodies.rules w rs) ls h = rules_back count (system_lines w rs) ls h
head_back count (Bodies.linear l) ls h = All-cons (HasListed count) (linear_line l) ls (All-nil (IsLaw count)) h

front_of : (count : ℕ) (xs ys : List ℕ) → All (IsLaw count) (xs ++ ys) → All (IsLaw count) xs × All (IsLaw count) ys
front_of count [] ys h = (All-nil (IsLaw count), h)
front_of count (x ∷ xs) ys h =
    let on = front_of count xs ys (All-tail (IsLaw count) x (xs ++ ys) h) in
    (All-cons (IsLaw count) x xs (All-head (IsLaw count) x (xs ++ ys) h) on.0, on.1)

pub model_listed : (count : ℕ) (m : Model) (c : Claims) → All (IsLaw count) (c.holds ++ c.fails) → AreListed bodies count (model_lines m c)
model_listed count m c h =
    let both = front_of count c.holds c.fails h in
    head_back count m (map claim_line (claim_lines c))
    (holds_back count (cut 100 c.holds) (map fails (cut 100 c.fails)) (pieces_listed count 100 (length c.holds) c.holds both.0)
    (fails_back count (cut 100 c.fails) (pieces_listed count 100 (length c.fails) c.fails both.1)))
