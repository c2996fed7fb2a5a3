-- The written lines of a magma and its claims are read back.
use Rattle.std.proofs.Common.{◌≡◌, ℕ, zero, suc, ◌+◌, ◌*◌, ◌<◌, ◌≤◌, arith, true, nat_le, nat_lt, nat_eq, List, [], ◌∷◌, ◌++◌, length, take, drop, map, refl, sym, ap, subst, ◌∙◌, Some, suc-mul}
use Rattle.std.specs.List.{AllByRecursion}
use Rattle.std.proofs.lemmas.Bool.{le-leb, lt-ltb, eq-eqb}
use Rattle.std.proofs.lemmas.List.{length-take, length-drop}
use Rattle.std.proofs.lemmas.List.Elements.{recursion_from_All}
use Rattle.etp_io.specs.Texts.{LineText, lines_of}
use Rattle.etp_reading.specs.Reading.{Reads, AreWhole}
use Rattle.etp_matrix.specs.declared.parts.Part.{Part}
use Rattle.etp_matrix.specs.declared.parts.Part.TheVariants.{A, B, C}
use Rattle.etp_lines.specs.TableLines.{table, row}
use Rattle.etp_lines.specs.MatrixLines as Matrices
use Rattle.etp_lines.specs.MatrixLines.{awaits, rows_of}
use Rattle.etp_lines.specs.RulesLines.{weighed, system_lines}
use Rattle.etp_lines.specs.Claims.{ClaimLine, holds, fails, holding, failing, Claims}
use Rattle.etp_lines.specs.BodyLines as Lines
use Rattle.etp_lines.specs.BodyLines.{Line, Head, is_told, Place, opening, in_head, in_claims, table_line, linear_line, matrix_line, rules_line, claim_line, after, bodies}
use Rattle.etp_matrix.specs.Magmas.{MatrixMagma}
use Rattle.etp_items.specs.Bodies as Bodies
use Rattle.etp_items.specs.Bodies.{Model, model}
use Rattle.etp_items.specs.Reading.{SaysModel, SaysClaimed}
use Rattle.etp_items.specs.Written.{written_by, written_table_line, written_claim_line, pieces, cut, matrix_lines, model_text, claim_lines, written_body, IsWritableMatrix, IsWritableModel, IsShortModel, AreWritableClaims}
use Rattle.etp_items.proofs.ReadBack.{together}
use Rattle.etp_items.proofs.NumberLemmas.{cut_joined, written_join, written_map}
use Rattle.etp_items.proofs.MatrixRows.{rows_split}
use Rattle.etp_items.proofs.TextLines.{as_given, lines_back}
use Rattle.etp_items.proofs.ModelLineBack.{Small, written_any, IsFewLine, few_texts, reads_one}
use Rattle.etp_items.proofs.RulesReads.{system_few, system_read}

row_stands : (size count : ℕ) (entries : List ℕ) → count < size → length entries ≡ size
    → after (in_head (Lines.rows (record { size = size; count = count }))) (table_line (row entries)) ≡ Some (in_head (Lines.rows (record { size = size; count = count + 1 })))
row_stands size count entries few long =
    let lt : nat_lt count size ≡ true = lt-ltb count size few in
    let eq : nat_eq (length entries) size ≡ true = eq-eqb (length entries) size long in
    rw (lt, eq) refl

read_rows : (size count : ℕ) (rows : List (List ℕ)) (rest : List Line) (q : Place) → count + length rows ≤ size → AllByRecursion (λ r. length r ≡ size) rows
    → AllByRecursion IsFewLine (map table_line (map row rows) ++ rest)
    → Reads bodies (in_head (Lines.rows (record { size = size; count = count + length rows }))) (as_given written_any rest) rest q
    → Reads bodies (in_head (Lines.rows (record { size = size; count = count }))) (as_given written_any (map table_line (map row rows) ++ rest)) (map table_line (map row rows) ++ rest) q
read_rows size count [] rest q few long small h = subst (λ n. Reads bodies (in_head (Lines.rows (record { size = size; count = n }))) (as_given written_any rest) rest q) (let e : count + 0 ≡ count = omega arith in e) h
read_rows size count (r ∷ rows) rest q few long small h =
    reads_one (in_head (Lines.rows (record { size = size; count = count }))) (in_head (Lines.rows (record { size = size; count = count + 1 }))) q (table_line (row r)) (map table_line (map row rows) ++ rest) small.0
    (row_stands size count r (omega (arith, few)) long.0)
    (read_rows size (count + 1) rows rest q (omega (arith, few)) long.1 small.1
    (subst (λ n. Reads bodies (in_head (Lines.rows (record { size = size; count = n }))) (as_given written_any rest) rest q) (let e : count + length (r ∷ rows) ≡ (count + 1) + length rows = omega arith in e) h))

-- the row of a part that is next
part_stands : (modulus size count : ℕ) (p : Part) (entries : List ℕ) → awaits size count p ≡ true → length entries ≡ size
    → after (in_head (Lines.matrix (record { modulus = modulus; size = size; count = count }))) (matrix_line (Matrices.row p entries))
    ≡ Some (in_head (Lines.matrix (record { modulus = modulus; size = size; count = count + 1 })))
part_stands modulus size count p entries next long =
    let eq : nat_eq (length entries) size ≡ true = eq-eqb (length entries) size long in
    rw (next, eq) refl

-- the rows of a part are next one after another
abbrev pub AreNext : ℕ → ℕ → Part → ℕ → Type 0
AreNext size count p n = (k : ℕ) → k < n → awaits size (count + k) p ≡ true

read_part : (modulus size count : ℕ) (p : Part) (rs : List (List ℕ)) (rest : List Line) (q : Place) → AreNext size count p (length rs) → AllByRecursion (λ r. length r ≡ size) rs
    → AllByRecursion IsFewLine (map matrix_line (map (Matrices.row p) rs) ++ rest)
    → Reads bodies (in_head (Lines.matrix (record { modulus = modulus; size = size; count = count + length rs }))) (as_given written_any rest) rest q
    → Reads bodies (in_head (Lines.matrix (record { modulus = modulus; size = size; count = count })))
    (as_given written_any (map matrix_line (map (Matrices.row p) rs) ++ rest)) (map matrix_line (map (Matrices.row p) rs) ++ rest) q
read_part modulus size count p [] rest q next long small h =
    subst (λ n. Reads bodies (in_head (Lines.matrix (record { modulus = modulus; size = size; count = n }))) (as_given written_any rest) rest q) (let e : count + 0 ≡ count = omega arith in e) h
read_part modulus size count p (r ∷ rs) rest q next long small h =
    let first : awaits size count p ≡ true = subst (λ n. awaits size n p ≡ true) (let e : count + 0 ≡ count = omega arith in e) (next 0 (omega arith)) in
    let others : AreNext size (count + 1) p (length rs) = λ k l. subst (λ n. awaits size n p ≡ true) (let e : count + (k + 1) ≡ (count + 1) + k = omega arith in e) (next (k + 1) (omega (arith, l))) in
    reads_one (in_head (Lines.matrix (record { modulus = modulus; size = size; count = count }))) (in_head (Lines.matrix (record { modulus = modulus; size = size; count = count + 1 }))) q
    (matrix_line (Matrices.row p r)) (map matrix_line (map (Matrices.row p) rs) ++ rest) small.0 (part_stands modulus size count p r first long.0)
    (read_part modulus size (count + 1) p rs rest q others long.1 small.1
    (subst (λ n. Reads bodies (in_head (Lines.matrix (record { modulus = modulus; size = size; count = n }))) (as_given written_any rest) rest q) (let e : count + length (r ∷ rs) ≡ (count + 1) + length rs = omega arith in e) h))

read_failed : (fs : List (List ℕ)) → AllByRecursion IsFewLine (map claim_line (map fails fs)) → Reads bodies (in_claims failing) (as_given written_any (map claim_line (map fails fs))) (map claim_line (map fails fs)) (in_claims failing)
read_failed [] small = (refl, refl)
read_failed (f ∷ fs) small = reads_one (in_claims failing) (in_claims failing) (in_claims failing) (claim_line (fails f)) (map claim_line (map fails fs)) small.0 refl (read_failed fs small.1)

read_held : (hs : List (List ℕ)) (f : List ℕ) (fs : List (List ℕ)) → AllByRecursion IsFewLine (map claim_line (map holds hs ++ map fails (f ∷ fs)))
    → Reads bodies (in_claims holding) (as_given written_any (map claim_line (map holds hs ++ map fails (f ∷ fs)))) (map claim_line (map holds hs ++ map fails (f ∷ fs))) (in_claims failing)
read_held [] f fs small = reads_one (in_claims holding) (in_claims failing) (in_claims failing) (claim_line (fails f)) (map claim_line (map fails fs)) small.0 refl (read_failed fs small.1)
read_held (k ∷ hs) f fs small =
    reads_one (in_claims holding) (in_claims holding) (in_claims failing) (claim_line (holds k)) (map claim_line (map holds hs ++ map fails (f ∷ fs))) small.0 refl (read_held hs f fs small.1)

claim_stands : (head : Head) (k : List ℕ) → is_told head ≡ true → after (in_head head) (claim_line (holds k)) ≡ Some (in_claims holding)
claim_stands head k told = rw told refl

size_stands : (size : ℕ) → 1 ≤ size → size ≤ 255 → after opening (table_line (table size)) ≡ Some (in_head (Lines.rows (record { size = size; count = 0 })))
size_stands size low high =
    let l : nat_le 1 size ≡ true = le-leb 1 size low in
    let g : nat_le size 255 ≡ true = le-leb size 255 high in
    rw (l, g) refl

modulus_stands : (modulus size : ℕ) → 1 ≤ size → size ≤ 4
    → after opening (matrix_line (Matrices.matrix modulus size)) ≡ Some (in_head (Lines.matrix (record { modulus = modulus; size = size; count = 0 })))
modulus_stands modulus size low high =
    let l : nat_le 1 size ≡ true = le-leb 1 size low in
    let g : nat_le size 4 ≡ true = le-leb size 4 high in
    rw (l, g) refl

-- pieces that a body is cut in
pieces_few : (n k : ℕ) (xs : List ℕ) → 1 ≤ n → n ≤ 255 → AllByRecursion Small xs → AllByRecursion (λ r. (0 < length r) × (length r ≤ 255) × AllByRecursion Small r) (pieces n k xs)
pieces_few n k [] some few h = tt
pieces_few n zero (x ∷ xs) some few h = tt
pieces_few n (suc k) (x ∷ xs) some few h = (
  (omega (arith, length-take n (x ∷ xs)), omega (arith, length-take n (x ∷ xs)), take_small n (x ∷ xs) h),
  pieces_few n k (drop n (x ∷ xs)) some few (drop_small n (x ∷ xs) h),
)
  where
    take_small : (n : ℕ) (xs : List ℕ) → AllByRecursion Small xs → AllByRecursion Small (take n xs)
    take_small zero [] h = tt
    take_small zero (x ∷ xs) h = tt
    take_small (suc n) [] h = tt
    take_small (suc n) (x ∷ xs) h = (h.0, take_small n xs h.1)

    drop_small : (n : ℕ) (xs : List ℕ) → AllByRecursion Small xs → AllByRecursion Small (drop n xs)
    drop_small zero [] h = tt
    drop_small zero (x ∷ xs) h = h
    drop_small (suc n) [] h = tt
    drop_small (suc n) (x ∷ xs) h = drop_small n xs h.1

-- so many whole rows
rows_exact : (n count k : ℕ) (xs : List ℕ) → 1 ≤ n → length xs ≡ count * n → length xs ≤ k → AllByRecursion (λ r. length r ≡ n) (pieces n k xs) × (length (pieces n k xs) ≡ count)
rows_exact n zero k [] some long few = (tt, refl)
rows_exact n (suc count) k [] some long few = absurd (let e = suc-mul count n in omega (arith, long))
rows_exact n count zero (x ∷ xs) some long few = absurd (omega (arith, few))
rows_exact n zero (suc k) (x ∷ xs) some long few = absurd (omega (arith, long))
rows_exact n (suc count) (suc k) (x ∷ xs) some long few =
    let e : suc count * n ≡ count * n + n = suc-mul count n in
    let on = rows_exact n count k (drop n (x ∷ xs)) some (omega (arith, length-drop n (x ∷ xs), long)) (omega (arith, length-drop n (x ∷ xs), few)) in
    ((omega (arith, length-take n (x ∷ xs), long), on.0), omega (arith, on.1))

rows_few : (rs : List (List ℕ)) → AllByRecursion (λ r. (0 < length r) × (length r ≤ 255) × AllByRecursion Small r) rs → (rest : List Line) → AllByRecursion IsFewLine rest → AllByRecursion IsFewLine (map table_line (map row rs) ++ rest)
rows_few [] h rest k = k
rows_few (r ∷ rs) h rest k = ((h.0.1, h.0.2), rows_few rs h.1 rest k)

part_few : (p : Part) (rs : List (List ℕ)) → AllByRecursion (λ r. (0 < length r) × (length r ≤ 255) × AllByRecursion Small r) rs → (rest : List Line) → AllByRecursion IsFewLine rest
    → AllByRecursion IsFewLine (map matrix_line (map (Matrices.row p) rs) ++ rest)
part_few p [] h rest k = k
part_few p (r ∷ rs) h rest k = ((h.0.1, h.0.2), part_few p rs h.1 rest k)

failed_few : (fs : List (List ℕ)) → AllByRecursion (λ r. (0 < length r) × (length r ≤ 255) × AllByRecursion Small r) fs → AllByRecursion IsFewLine (map claim_line (map fails fs))
failed_few [] h = tt
failed_few (f ∷ fs) h = (h.0, failed_few fs h.1)

held_few : (hs : List (List ℕ)) (rest : List ClaimLine) → AllByRecursion (λ r. (0 < length r) × (length r ≤ 255) × AllByRecursion Small r) hs → AllByRecursion IsFewLine (map claim_line rest)
    → AllByRecursion IsFewLine (map claim_line (map holds hs ++ rest))
held_few [] rest h k = k
held_few (r ∷ hs) rest h k = (h.0, held_few hs rest h.1 k)

-- the lines of a written magma
abbrev pub head_lines : Model → List Line
head_lines (Bodies.table size entries) = table_line (table size) ∷ map table_line (map row (cut size entries))
head_lines (Bodies.linear l) = linear_line l ∷ []
head_lines (Bodies.matrix g) = map matrix_line (matrix_lines g)
head_lines (Bodies.rules w rs) = map rules_line (system_lines w rs)

-- and those of a written body
abbrev pub model_lines : Model → Claims → List Line
model_lines m c = head_lines m ++ map claim_line (claim_lines c)

claims_few : (c : Claims) → AreWritableClaims c → AllByRecursion IsFewLine (map claim_line (claim_lines c))
claims_few c k =
    held_few (cut 100 c.holds) (map fails (cut 100 c.fails)) (pieces_few 100 (length c.holds) c.holds (omega arith) (omega arith) (recursion_from_All Small c.holds k.holds_small))
    (failed_few (cut 100 c.fails) (pieces_few 100 (length c.fails) c.fails (omega arith) (omega arith) (recursion_from_All Small c.fails k.fails_small)))

c_few : (g : MatrixMagma) → IsWritableMatrix g → (rest : List Line) → AllByRecursion IsFewLine rest → AllByRecursion IsFewLine (map matrix_line (map (Matrices.row C) (g.c ∷ [])) ++ rest)
c_few g w rest k = ((omega (arith, w.shape.c_length, w.shape.at_most), recursion_from_All Small g.c w.c_small), k)

b_few : (g : MatrixMagma) → IsWritableMatrix g → (rest : List Line) → AllByRecursion IsFewLine rest
    → AllByRecursion IsFewLine (map matrix_line (map (Matrices.row B) (cut g.size g.b)) ++ (map matrix_line (map (Matrices.row C) (g.c ∷ [])) ++ rest))
b_few g w rest k =
    let few : g.size ≤ 255 = omega (arith, w.shape.at_most) in
    part_few B (cut g.size g.b) (pieces_few g.size (length g.b) g.b w.shape.at_least few (recursion_from_All Small g.b w.b_small)) _ (c_few g w rest k)

matrix_few : (g : MatrixMagma) → IsWritableMatrix g → (rest : List Line) → AllByRecursion IsFewLine rest
    → AllByRecursion IsFewLine (map matrix_line (map (Matrices.row A) (cut g.size g.a)) ++ (map matrix_line (map (Matrices.row B) (cut g.size g.b)) ++ (map matrix_line (map (Matrices.row C) (g.c ∷ [])) ++ rest)))
matrix_few g w rest k =
    let few : g.size ≤ 255 = omega (arith, w.shape.at_most) in
    let a = pieces_few g.size (length g.a) g.a w.shape.at_least few (recursion_from_All Small g.a w.a_small) in
    part_few A (cut g.size g.a) a _ (b_few g w rest k)

model_few : (m : Model) (c : Claims) → IsWritableModel m → IsShortModel m → AreWritableClaims c → AllByRecursion IsFewLine (model_lines m c)
model_few (Bodies.table size entries) c w s k = (
  omega (arith, w.1),
  rows_few (cut size entries) (pieces_few size (length entries) entries w.0 w.1 (recursion_from_All Small entries w.3)) (map claim_line (claim_lines c)) (claims_few c k),
)
model_few (Bodies.linear l) c w s k = (w, claims_few c k)
model_few (Bodies.matrix g) c w s k = (
  (w.modulus, omega (arith, w.shape.at_most)),
  subst (AllByRecursion IsFewLine) (sym (rows_split (cut g.size g.a) (cut g.size g.b) (g.c ∷ []) (map claim_line (claim_lines c)))) (matrix_few g w (map claim_line (claim_lines c)) (claims_few c k)),
)
model_few (Bodies.rules v rs) c w s k = system_few v rs w s (map claim_line (claim_lines c)) (claims_few c k)

claims_read_back : (head : Head) (hs fs : List (List ℕ)) → is_told head ≡ true → 0 < length hs → 0 < length fs → AllByRecursion IsFewLine (map claim_line (map holds hs ++ map fails fs))
    → Reads bodies (in_head head) (as_given written_any (map claim_line (map holds hs ++ map fails fs))) (map claim_line (map holds hs ++ map fails fs)) (in_claims failing)
claims_read_back head [] fs told some more small = absurd (omega (arith, some))
claims_read_back head (k ∷ hs) [] told some more small = absurd (omega (arith, more))
claims_read_back head (k ∷ hs) (f ∷ fs) told some more small =
    reads_one (in_head head) (in_claims holding) (in_claims failing) (claim_line (holds k)) (map claim_line (map holds hs ++ map fails (f ∷ fs))) small.0 (claim_stands head k told)
    (read_held hs f fs small.1)

some_pieces : (n : ℕ) (xs : List ℕ) → 0 < length xs → 0 < length (cut n xs)
some_pieces n [] h = absurd (omega (arith, h))
some_pieces n (x ∷ xs) h = omega arith

-- claims behind a magma that is told
claims_behind : (head : Head) (c : Claims) → is_told head ≡ true → AreWritableClaims c
    → Reads bodies (in_head head) (as_given written_any (map claim_line (claim_lines c))) (map claim_line (claim_lines c)) (in_claims failing)
claims_behind head c told k =
    claims_read_back head (cut 100 c.holds) (cut 100 c.fails) told (some_pieces 100 c.holds k.some_hold) (some_pieces 100 c.fails k.some_fail) (claims_few c k)

matrix_read : (g : MatrixMagma) (c : Claims) → IsWritableMatrix g → AreWritableClaims c
    → Reads bodies opening (as_given written_any (model_lines (Bodies.matrix g) c)) (model_lines (Bodies.matrix g) c) (in_claims failing)
matrix_read g c w k =
    let few = model_few (Bodies.matrix g) c w tt k in
    let n = g.size in
    let a = cut n g.a in
    let b = cut n g.b in
    let exact_a = rows_exact n n (length g.a) g.a w.shape.at_least w.shape.a_length (omega arith) in
    let exact_b = rows_exact n n (length g.b) g.b w.shape.at_least w.shape.b_length (omega arith) in
    let rest = map claim_line (claim_lines c) in
    let rows_c = map matrix_line (map (Matrices.row C) (g.c ∷ [])) ++ rest in
    let rows_b = map matrix_line (map (Matrices.row B) b) ++ rows_c in
    let rows_a = map matrix_line (map (Matrices.row A) a) ++ rows_b in
    let rows_few = matrix_few g w rest (claims_few c k) in
    let told : Matrices.has_all (record { modulus = g.modulus; size = n; count = n + n + 1 }) ≡ true = eq-eqb (n + n + 1) (n + n + 1) refl in
    let claims = claims_behind (Lines.matrix (record { modulus = g.modulus; size = n; count = n + n + 1 })) c told k in
    let c_next : AreNext n (n + n) C 1 = λ j l. eq-eqb ((n + n) + j) (n + n) (omega (arith, l)) in
    let c_read = read_part g.modulus n (n + n) C (g.c ∷ []) rest (in_claims failing) c_next (w.shape.c_length, tt) (c_few g w rest (claims_few c k)) claims in
    let b_next : AreNext n n B (length b) = λ j l. together (nat_le n (n + j)) (nat_lt (n + j) (n + n)) (le-leb n (n + j) (omega arith)) (lt-ltb (n + j) (n + n) (omega (arith, l, exact_b.1))) in
    let at_c : n + n ≡ n + length b = omega (arith, exact_b.1) in
    let b_read = read_part g.modulus n n B b rows_c (in_claims failing) b_next exact_b.0 (b_few g w rest (claims_few c k))
    (subst (λ i. Reads bodies (in_head (Lines.matrix (record { modulus = g.modulus; size = n; count = i }))) (as_given written_any rows_c) rows_c (in_claims failing)) at_c c_read) in
    let a_next : AreNext n 0 A (length a) = λ j l. lt-ltb (0 + j) n (omega (arith, l, exact_a.1)) in
    let at_b : n ≡ 0 + length a = omega (arith, exact_a.1) in
    let a_read = read_part g.modulus n 0 A a rows_b (in_claims failing) a_next exact_a.0 rows_few
    (subst (λ i. Reads bodies (in_head (Lines.matrix (record { modulus = g.modulus; size = n; count = i }))) (as_given written_any rows_b) rows_b (in_claims failing)) at_b b_read) in
    reads_one opening (in_head (Lines.matrix (record { modulus = g.modulus; size = n; count = 0 }))) (in_claims failing) (matrix_line (Matrices.matrix g.modulus n))
    (map matrix_line (rows_of a b (g.c ∷ [])) ++ rest) few.0 (modulus_stands g.modulus n w.shape.at_least w.shape.at_most)
    (subst (λ (z : List Line). Reads bodies (in_head (Lines.matrix (record { modulus = g.modulus; size = n; count = 0 }))) (as_given written_any z) z (in_claims failing))
    (sym (rows_split a b (g.c ∷ []) rest)) a_read)

pub model_read : (m : Model) (c : Claims) → IsWritableModel m → IsShortModel m → AreWritableClaims c → Reads bodies opening (as_given written_any (model_lines m c)) (model_lines m c) (in_claims failing)
model_read (Bodies.table size entries) c w s k =
    let few = model_few (Bodies.table size entries) c w s k in
    let rows = cut size entries in
    let exact = rows_exact size size (length entries) entries w.0 w.2 (omega arith) in
    let rest = map claim_line (claim_lines c) in
    let claims = claims_behind (Lines.rows (record { size = size; count = size })) c (eq-eqb size size refl) k in
    reads_one opening (in_head (Lines.rows (record { size = size; count = 0 }))) (in_claims failing) (table_line (table size)) (map table_line (map row rows) ++ rest) few.0 (size_stands size w.0 w.1)
    (read_rows size 0 rows rest (in_claims failing) (omega (arith, exact.1)) exact.0 few.1
    (subst (λ n. Reads bodies (in_head (Lines.rows (record { size = size; count = n }))) (as_given written_any rest) rest (in_claims failing)) (let e : size ≡ 0 + length rows = omega (arith, exact.1) in e) claims))
model_read (Bodies.linear l) c w s k =
    reads_one opening (in_head (Lines.linear l)) (in_claims failing) (linear_line l) (map claim_line (claim_lines c)) w refl (claims_behind (Lines.linear l) c refl k)
model_read (Bodies.matrix g) c w s k = matrix_read g c w k
model_read (Bodies.rules v rs) c w s k =
    system_read v rs (map claim_line (claim_lines c)) (in_claims failing) w (model_few (Bodies.rules v rs) c w s k)
    (claims_behind (Lines.rules (weighed (length rs))) c (le-leb 1 (length rs) w.some) k)

-- the text of the lines of a magma
head_text : (m : Model) → model_text m ≡ written_by written_any (head_lines m)
head_text (Bodies.table size entries) = ap (λ z. written_table_line (table size) ++ 10 ∷ z) (sym (written_map written_any table_line (map row (cut size entries))))
head_text (Bodies.linear l) = refl
head_text (Bodies.matrix g) = sym (written_map written_any matrix_line (matrix_lines g))
head_text (Bodies.rules w rs) = sym (written_map written_any rules_line (system_lines w rs))

-- and what the text has
text_lines : (m : Model) (c : Claims) → written_body (model m c) ≡ written_by written_any (model_lines m c)
text_lines m c =
    ap (λ z. z ++ written_by written_claim_line (claim_lines c)) (head_text m)
    ∙ ap (λ z. written_by written_any (head_lines m) ++ z) (sym (written_map written_any claim_line (claim_lines c)))
    ∙ sym (written_join written_any (head_lines m) (map claim_line (claim_lines c)))

pub model_given : (m : Model) (c : Claims) → IsWritableModel m → IsShortModel m → AreWritableClaims c → lines_of (written_body (model m c)) ≡ as_given written_any (model_lines m c)
model_given m c w s k = ap lines_of (text_lines m c) ∙ lines_back written_any (model_lines m c) (few_texts (model_lines m c) (model_few m c w s k))

head_says : (m : Model) → IsWritableModel m → SaysModel (head_lines m) m
head_says (Bodies.table size entries) w = (table size ∷ map row (cut size entries), refl, record { rows = cut size entries; whole = refl; entries_are = sym (cut_joined size entries w.0) })
head_says (Bodies.linear l) w = refl
head_says (Bodies.matrix g) w = (
  matrix_lines g,
  refl,
  record {
    a = cut g.size g.a;
    b = cut g.size g.b;
    whole = refl;
    a_is = sym (cut_joined g.size g.a w.shape.at_least);
    b_is = sym (cut_joined g.size g.b w.shape.at_least);
  },
)
head_says (Bodies.rules v rs) w = refl

pub model_says : (m : Model) (c : Claims) → IsWritableModel m → SaysClaimed (model_lines m c) m c
model_says m c w = record {
  head = head_lines m;
  behind = claim_lines c;
  whole = refl;
  says_model = head_says m w;
  says_claims = record {
    held = cut 100 c.holds;
    failed = cut 100 c.fails;
    whole = refl;
    holds_are = sym (cut_joined 100 c.holds (omega arith));
    fails_are = sym (cut_joined 100 c.fails (omega arith));
  };
}

pub model_whole_lines : (m : Model) (c : Claims) → IsWritableModel m → IsShortModel m → AreWritableClaims c → AreWhole bodies (lines_of (written_body (model m c))) (model_lines m c)
model_whole_lines m c w s k = record {
  come = in_claims failing;
  reads = subst (λ (z : List LineText). Reads bodies opening z (model_lines m c) (in_claims failing)) (sym (model_given m c w s k)) (model_read m c w s k);
  complete = refl;
}
