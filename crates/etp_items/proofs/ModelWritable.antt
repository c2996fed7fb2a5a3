-- A magma and its claims that were read can be written.
use Rattle.std.proofs.Common.{◌≡◌, ℕ, zero, suc, ◌⊎◌, ◌+◌, ◌*◌, ◌<◌, ◌≤◌, ◌^◌, ◌&&◌, arith, Bool, true, false, cond, nat_le, nat_lt, nat_eq, List, [], ◌∷◌, ◌++◌, length, map, refl, sym, ap, subst, ◌∙◌, inl, inr, Some, None, length-append, eqb-true, suc-mul}
use Rattle.std.specs.Option.{option_map}
use Rattle.std.specs.List.{concat, AllByRecursion}
use Rattle.std.proofs.lemmas.Bool.{leb-true, ltb-true, cases_lt}
use Rattle.std.proofs.lemmas.List.Elements.{All-nil, All-append}
use Rattle.etp_io.specs.Texts.{LineText}
use Rattle.etp_reading.specs.Reading.{Reads}
use Rattle.etp_linear.specs.Magmas.{LinearMagma}
use Rattle.etp_matrix.specs.Magmas.{MatrixMagma}
use Rattle.etp_matrix.specs.declared.parts.Part.{Part}
use Rattle.etp_matrix.specs.declared.parts.Part.TheVariants.{A, B, C}
use Rattle.etp_lines.specs.MatrixLines as Matrices
use Rattle.etp_lines.specs.MatrixLines.{MatrixLine, awaits, rows_of}
use Rattle.etp_lines.specs.TableLines.{TableLine, table, row}
use Rattle.etp_lines.specs.Claims.{ClaimLine, holds, fails, Claims}
use Rattle.etp_lines.specs.BodyLines as Lines
use Rattle.etp_lines.specs.BodyLines.{Line, Place, opening, in_head, table_line, linear_line, matrix_line, claim_line, after, is_complete, bodies}
use Rattle.etp_items.specs.Bodies as Bodies
use Rattle.etp_items.specs.Bodies.{Model}
use Rattle.etp_items.specs.Reading.{SaysModel, SaysClaimed}
use Rattle.etp_items.specs.Written.{AreNumbers, IsWritable, IsWritableModel, AreWritableClaims}
use Rattle.etp_items.proofs.ReadBack.{both}
use Rattle.etp_items.proofs.MatrixRows.{rows_split}
use Rattle.etp_items.proofs.ClaimsRead.{none_some, numbers_small, first_read, claims_read, HeadRead}
use Rattle.etp_items.proofs.RulesWritable.{rules_read}

-- a row that stands
pub record RowStands (size count : ℕ) (entries : List ℕ) (next : Place) : Type 0 where
  pub few : count < size
  pub long : length entries ≡ size
  pub there : next ≡ in_head (Lines.rows (record { size = size; count = count + 1 }))

row_then : (b : Bool) (size count : ℕ) (entries : List ℕ) (next : Place) → (nat_lt count size && nat_eq (length entries) size) ≡ b
    → option_map in_head (option_map Lines.rows (cond b (Some (record { size = size; count = count + 1 })) None)) ≡ Some next → RowStands size count entries next
row_then true size count entries next e h =
    let s = both (nat_lt count size) (nat_eq (length entries) size) e in
    let k : in_head (Lines.rows (record { size = size; count = count + 1 })) ≡ next = cc in
    record { few = ltb-true count size s.0; long = eqb-true (length entries) size s.1; there = sym k }
row_then false size count entries next e h = absurd (none_some next h)

pub row_stands : (size count : ℕ) (entries : List ℕ) (next : Place) → after (in_head (Lines.rows (record { size = size; count = count }))) (table_line (row entries)) ≡ Some next → RowStands size count entries next
row_stands size count entries next h = row_then (nat_lt count size && nat_eq (length entries) size) size count entries next refl h

-- rows that were read
pub record RowsRead (size count : ℕ) (rows : List (List ℕ)) (rest : List Line) (q : Place) : Type 0 where
  pub behind : List LineText
  pub long : AllByRecursion (λ entries. length entries ≡ size) rows
  pub small : AllByRecursion (λ entries. AreNumbers entries) rows
  pub reads : Reads bodies (in_head (Lines.rows (record { size = size; count = count + length rows }))) behind rest q

add_suc : (a b : ℕ) → (a + 1) + b ≡ a + (b + 1)
add_suc a b = omega arith

pub rows_read : (size count : ℕ) (xs : List LineText) (rows : List (List ℕ)) (rest : List Line) (q : Place)
    → Reads bodies (in_head (Lines.rows (record { size = size; count = count }))) xs (map table_line (map row rows) ++ rest) q → RowsRead size count rows rest q
rows_read size count xs [] rest q h = record {
  behind = xs;
  long = tt;
  small = tt;
  reads = subst (λ n. Reads bodies (in_head (Lines.rows (record { size = size; count = n }))) xs rest q) (let e : count ≡ count + 0 = omega arith in e) h;
}
rows_read size count xs (entries ∷ rows) rest q h =
    let f = first_read (in_head (Lines.rows (record { size = size; count = count }))) xs (table_line (row entries)) (map table_line (map row rows) ++ rest) q h in
    let s = row_stands size count entries f.next f.stands in
    let on = rows_read size (count + 1) f.behind rows rest q (subst (λ (z : Place). Reads bodies z f.behind (map table_line (map row rows) ++ rest) q) s.there f.reads) in
    record {
      behind = on.behind;
      long = (s.long, on.long);
      small = (numbers_small f.line _ entries f.says, on.small);
      reads = subst (λ n. Reads bodies (in_head (Lines.rows (record { size = size; count = n }))) on.behind rest q) (let e : (count + 1) + length rows ≡ count + length (entries ∷ rows) = omega arith in e) on.reads;
    }

-- a row of a part that stands
pub record PartStands (modulus size count : ℕ) (p : Part) (entries : List ℕ) (next : Place) : Type 0 where
  pub awaited : awaits size count p ≡ true
  pub long : length entries ≡ size
  pub there : next ≡ in_head (Lines.matrix (record { modulus = modulus; size = size; count = count + 1 }))

part_then : (b : Bool) (modulus size count : ℕ) (p : Part) (entries : List ℕ) (next : Place) → (awaits size count p && nat_eq (length entries) size) ≡ b
    → option_map in_head (option_map Lines.matrix (cond b (Some (record { modulus = modulus; size = size; count = count + 1 })) None)) ≡ Some next
    → PartStands modulus size count p entries next
part_then true modulus size count p entries next e h =
    let s = both (awaits size count p) (nat_eq (length entries) size) e in
    let k : in_head (Lines.matrix (record { modulus = modulus; size = size; count = count + 1 })) ≡ next = cc in
    record { awaited = s.0; long = eqb-true (length entries) size s.1; there = sym k }
part_then false modulus size count p entries next e h = absurd (none_some next h)

part_stands : (modulus size count : ℕ) (p : Part) (entries : List ℕ) (next : Place)
    → after (in_head (Lines.matrix (record { modulus = modulus; size = size; count = count }))) (matrix_line (Matrices.row p entries)) ≡ Some next
    → PartStands modulus size count p entries next
part_stands modulus size count p entries next h = part_then (awaits size count p && nat_eq (length entries) size) modulus size count p entries next refl h

-- rows of a part that were read
pub record PartRead (modulus size count : ℕ) (p : Part) (rs : List (List ℕ)) (rest : List Line) (q : Place) : Type 0 where
  pub behind : List LineText
  pub awaited : (k : ℕ) → k < length rs → awaits size (count + k) p ≡ true
  pub long : AllByRecursion (λ entries. length entries ≡ size) rs
  pub small : AllByRecursion (λ entries. AreNumbers entries) rs
  pub reads : Reads bodies (in_head (Lines.matrix (record { modulus = modulus; size = size; count = count + length rs }))) behind rest q

all_awaited : (size count : ℕ) (p : Part) (n : ℕ) → awaits size count p ≡ true → ((k : ℕ) → k < n → awaits size ((count + 1) + k) p ≡ true) → (k : ℕ) → k < n + 1 → awaits size (count + k) p ≡ true
all_awaited size count p n first others zero l = subst (λ m. awaits size m p ≡ true) (let e : count ≡ count + 0 = omega arith in e) first
all_awaited size count p n first others (suc k) l = subst (λ m. awaits size m p ≡ true) (let e : (count + 1) + k ≡ count + suc k = omega arith in e) (others k (omega (arith, l)))

part_read : (modulus size count : ℕ) (p : Part) (xs : List LineText) (rs : List (List ℕ)) (rest : List Line) (q : Place)
    → Reads bodies (in_head (Lines.matrix (record { modulus = modulus; size = size; count = count }))) xs (map matrix_line (map (Matrices.row p) rs) ++ rest) q
    → PartRead modulus size count p rs rest q
part_read modulus size count p xs [] rest q h = record {
  behind = xs;
  awaited = λ k l. absurd (omega (arith, l));
  long = tt;
  small = tt;
  reads = subst (λ n. Reads bodies (in_head (Lines.matrix (record { modulus = modulus; size = size; count = n }))) xs rest q) (let e : count ≡ count + 0 = omega arith in e) h;
}
part_read modulus size count p xs (entries ∷ rs) rest q h =
    let f = first_read (in_head (Lines.matrix (record { modulus = modulus; size = size; count = count }))) xs (matrix_line (Matrices.row p entries)) (map matrix_line (map (Matrices.row p) rs) ++ rest) q h in
    let s = part_stands modulus size count p entries f.next f.stands in
    let on = part_read modulus size (count + 1) p f.behind rs rest q (subst (λ (z : Place). Reads bodies z f.behind (map matrix_line (map (Matrices.row p) rs) ++ rest) q) s.there f.reads) in
    record {
      behind = on.behind;
      awaited = λ k l. all_awaited size count p (length rs) s.awaited on.awaited k (omega (arith, l));
      long = (s.long, on.long);
      small = (numbers_small f.line _ entries f.says, on.small);
      reads = subst (λ n. Reads bodies (in_head (Lines.matrix (record { modulus = modulus; size = size; count = n }))) on.behind rest q) (let e : (count + 1) + length rs ≡ count + length (entries ∷ rs) = omega arith in e) on.reads;
    }

few_a : (size n : ℕ) → ((k : ℕ) → k < n → awaits size (0 + k) A ≡ true) → n ≤ size
few_a size zero h = omega arith
few_a size (suc n) h = let l = ltb-true (0 + n) size (h n (omega arith)) in omega (arith, l)

-- where B has rows, those of A are all
behind_a : (size count n : ℕ) → ((k : ℕ) → k < n → awaits size (count + k) B ≡ true) → 0 < n → size ≤ count
behind_a size count n h some =
    let first = both (nat_le size (count + 0)) (nat_lt (count + 0) (size + size)) (h 0 some) in
    let l = leb-true size (count + 0) first.0 in
    omega (arith, l)

-- where c stands, all rows of A and B do
all_rows : (size i j : ℕ) → 1 ≤ size → i ≤ size → (0 < j → size ≤ i) → i + j ≡ size + size → (i ≡ size) × (j ≡ size)
all_rows size i j some few_i past sum = by (cases_lt 0 j)
  where
    by : (0 < j) ⊎ (j ≤ 0) → (i ≡ size) × (j ≡ size)
    by (inl l) = let k = past l in (omega (arith, k, few_i), omega (arith, k, few_i, sum))
    by (inr l) = absurd (omega (arith, l, sum, some, few_i))

concat_length : (n : ℕ) (rows : List (List ℕ)) → AllByRecursion (λ entries. length entries ≡ n) rows → length (concat rows) ≡ length rows * n
concat_length n [] h = omega arith
concat_length n (r ∷ rows) h =
    let on = concat_length n rows h.1 in
    let one : length (r ∷ rows) * n ≡ length rows * n + n = suc-mul (length rows) n in
    omega (arith, length-append r (concat rows), h.0)

concat_small : (rows : List (List ℕ)) → AllByRecursion (λ entries. AreNumbers entries) rows → AreNumbers (concat rows)
concat_small [] h = All-nil (λ n. n < 2 ^ 32)
concat_small (r ∷ rows) h = All-append (λ n. n < 2 ^ 32) r (concat rows) h.0 (concat_small rows h.1)

-- the numbers of claims are small
held_small : (saids : List Line) (hs : List (List ℕ)) (rest : List ClaimLine) → AllByRecursion IsWritable (map claim_line (map holds hs ++ rest)) → AreNumbers (concat hs) × AllByRecursion IsWritable (map claim_line rest)
held_small saids [] rest h = (All-nil (λ n. n < 2 ^ 32), h)
held_small saids (k ∷ hs) rest h = let on = held_small saids hs rest h.1 in (All-append (λ n. n < 2 ^ 32) k (concat hs) h.0 on.0, on.1)

failed_small : (fs : List (List ℕ)) → AllByRecursion IsWritable (map claim_line (map fails fs)) → AreNumbers (concat fs)
failed_small [] h = All-nil (λ n. n < 2 ^ 32)
failed_small (f ∷ fs) h = All-append (λ n. n < 2 ^ 32) f (concat fs) h.0 (failed_small fs h.1)

skip_tables : (ts : List TableLine) (ls : List Line) → AllByRecursion IsWritable (map table_line ts ++ ls) → AllByRecursion IsWritable ls
skip_tables [] ls h = h
skip_tables (t ∷ ts) ls h = skip_tables ts ls h.1

skip_matrices : (ms : List MatrixLine) (ls : List Line) → AllByRecursion IsWritable (map matrix_line ms ++ ls) → AllByRecursion IsWritable ls
skip_matrices [] ls h = h
skip_matrices (m ∷ ms) ls h = skip_matrices ms ls h.1

modulus_then : (low high : Bool) (modulus size : ℕ) (next : Place) → nat_le 1 size ≡ low → nat_le size 4 ≡ high
    → option_map in_head (option_map Lines.matrix (cond (low && high) (Some (record { modulus = modulus; size = size; count = 0 })) None)) ≡ Some next
    → (1 ≤ size) × (size ≤ 4) × (next ≡ in_head (Lines.matrix (record { modulus = modulus; size = size; count = 0 })))
modulus_then true true modulus size next l g h =
    let k : in_head (Lines.matrix (record { modulus = modulus; size = size; count = 0 })) ≡ next = cc in
    (leb-true 1 size l, leb-true size 4 g, sym k)
modulus_then true false modulus size next l g h = absurd (none_some next h)
modulus_then false high modulus size next l g h = absurd (none_some next h)

-- a size that stands
size_then : (low high : Bool) (size : ℕ) (next : Place) → nat_le 1 size ≡ low → nat_le size 255 ≡ high
    → option_map in_head (option_map Lines.rows (cond (low && high) (Some (record { size = size; count = 0 })) None)) ≡ Some next
    → (1 ≤ size) × (size ≤ 255) × (next ≡ in_head (Lines.rows (record { size = size; count = 0 })))
size_then true true size next l g h =
    let k : in_head (Lines.rows (record { size = size; count = 0 })) ≡ next = cc in
    (leb-true 1 size l, leb-true size 255 g, sym k)
size_then true false size next l g h = absurd (none_some next h)
size_then false high size next l g h = absurd (none_some next h)

table_read : (lines : List LineText) (saids : List Line) (size : ℕ) (entries : List ℕ) (hs fs : List (List ℕ)) (q : Place) → is_complete q ≡ true
    → SaysModel saids (Bodies.table size entries) → Reads bodies opening lines (saids ++ map claim_line (map holds hs ++ map fails fs)) q
    → AllByRecursion IsWritable (saids ++ map claim_line (map holds hs ++ map fails fs)) → HeadRead (Bodies.table size entries) hs fs (map claim_line (map holds hs ++ map fails fs))
table_read lines saids size entries hs fs q complete says reads writable =
    let t = says.2 in
    let rest = map claim_line (map holds hs ++ map fails fs) in
    let whole : saids ++ rest ≡ table_line (table size) ∷ (map table_line (map row t.rows) ++ rest) = ap (λ z. z ++ rest) (says.1 ∙ ap (map table_line) t.whole) in
    let f = first_read opening lines (table_line (table size)) (map table_line (map row t.rows) ++ rest) q (subst (λ (z : List Line). Reads bodies opening lines z q) whole reads) in
    let range = size_then (nat_le 1 size) (nat_le size 255) size f.next refl refl f.stands in
    let rows = rows_read size 0 f.behind t.rows rest q (subst (λ (z : Place). Reads bodies z f.behind (map table_line (map row t.rows) ++ rest) q) range.2 f.reads) in
    let head = Lines.rows (record { size = size; count = 0 + length t.rows }) in
    let claims = claims_read head rows.behind hs fs q complete rows.reads in
    let all : length t.rows ≡ size = omega (arith, eqb-true (0 + length t.rows) size claims.told) in
    record {
      head = head;
      writable = (
        range.0,
        range.1,
        ap length t.entries_are ∙ concat_length size t.rows rows.long ∙ ap (λ n. n * size) all,
        rw t.entries_are (concat_small t.rows rows.small),
      );
      claims = claims;
      behind = skip_tables (table size ∷ map row t.rows) rest (subst (AllByRecursion IsWritable) whole writable);
    }

linear_read : (lines : List LineText) (saids : List Line) (l : LinearMagma) (hs fs : List (List ℕ)) (q : Place) → is_complete q ≡ true
    → SaysModel saids (Bodies.linear l) → Reads bodies opening lines (saids ++ map claim_line (map holds hs ++ map fails fs)) q
    → AllByRecursion IsWritable (saids ++ map claim_line (map holds hs ++ map fails fs)) → HeadRead (Bodies.linear l) hs fs (map claim_line (map holds hs ++ map fails fs))
linear_read lines saids l hs fs q complete says reads writable =
    let rest = map claim_line (map holds hs ++ map fails fs) in
    let whole : saids ++ rest ≡ linear_line l ∷ rest = ap (λ z. z ++ rest) says in
    let f = first_read opening lines (linear_line l) rest q (subst (λ (z : List Line). Reads bodies opening lines z q) whole reads) in
    let there : in_head (Lines.linear l) ≡ f.next = let e : Some (in_head (Lines.linear l)) ≡ Some f.next = f.stands in cc in
    let w = subst (AllByRecursion IsWritable) whole writable in
    record {
      head = Lines.linear l;
      writable = w.0;
      claims = claims_read (Lines.linear l) f.behind hs fs q complete (subst (λ (z : Place). Reads bodies z f.behind rest q) (sym there) f.reads);
      behind = w.1;
    }

matrix_read : (lines : List LineText) (saids : List Line) (g : MatrixMagma) (hs fs : List (List ℕ)) (q : Place) → is_complete q ≡ true
    → SaysModel saids (Bodies.matrix g) → Reads bodies opening lines (saids ++ map claim_line (map holds hs ++ map fails fs)) q
    → AllByRecursion IsWritable (saids ++ map claim_line (map holds hs ++ map fails fs)) → HeadRead (Bodies.matrix g) hs fs (map claim_line (map holds hs ++ map fails fs))
matrix_read lines saids g hs fs q complete says reads writable =
    let t = says.2 in
    let n = g.size in
    let rest = map claim_line (map holds hs ++ map fails fs) in
    let rows_c = map matrix_line (map (Matrices.row C) (g.c ∷ [])) ++ rest in
    let rows_b = map matrix_line (map (Matrices.row B) t.b) ++ rows_c in
    let rows_a = map matrix_line (map (Matrices.row A) t.a) ++ rows_b in
    let plain : saids ++ rest ≡ matrix_line (Matrices.matrix g.modulus n) ∷ (map matrix_line (rows_of t.a t.b (g.c ∷ [])) ++ rest) = ap (λ z. z ++ rest) (says.1 ∙ ap (map matrix_line) t.whole) in
    let whole : saids ++ rest ≡ matrix_line (Matrices.matrix g.modulus n) ∷ rows_a =
    plain ∙ ap (λ (z : List Line). matrix_line (Matrices.matrix g.modulus n) ∷ z) (rows_split t.a t.b (g.c ∷ []) rest) in
    let f = first_read opening lines (matrix_line (Matrices.matrix g.modulus n)) rows_a q (subst (λ (z : List Line). Reads bodies opening lines z q) whole reads) in
    let range = modulus_then (nat_le 1 n) (nat_le n 4) g.modulus n f.next refl refl f.stands in
    let a = part_read g.modulus n 0 A f.behind t.a rows_b q (subst (λ (z : Place). Reads bodies z f.behind rows_a q) range.2 f.reads) in
    let b = part_read g.modulus n (0 + length t.a) B a.behind t.b rows_c q a.reads in
    let c = part_read g.modulus n ((0 + length t.a) + length t.b) C b.behind (g.c ∷ []) rest q b.reads in
    let at_c : ((0 + length t.a) + length t.b) + 0 ≡ n + n = eqb-true (((0 + length t.a) + length t.b) + 0) (n + n) (c.awaited 0 (omega arith)) in
    let all = all_rows n (length t.a) (length t.b) range.0 (few_a n (length t.a) a.awaited)
    (λ l. let k = behind_a n (0 + length t.a) (length t.b) b.awaited l in omega (arith, k)) (omega (arith, at_c)) in
    let head = Lines.matrix (record { modulus = g.modulus; size = n; count = ((0 + length t.a) + length t.b) + 1 }) in
    let w = subst (AllByRecursion IsWritable) plain writable in
    record {
      head = head;
      writable = record {
        modulus = w.0.0;
        shape = record {
          at_least = range.0;
          at_most = range.1;
          a_length = ap length t.a_is ∙ concat_length n t.a a.long ∙ ap (λ m. m * n) all.0;
          b_length = ap length t.b_is ∙ concat_length n t.b b.long ∙ ap (λ m. m * n) all.1;
          c_length = c.long.0;
        };
        a_small = rw t.a_is (concat_small t.a a.small);
        b_small = rw t.b_is (concat_small t.b b.small);
        c_small = c.small.0;
      };
      claims = claims_read head c.behind hs fs q complete c.reads;
      behind = skip_matrices (Matrices.matrix g.modulus n ∷ rows_of t.a t.b (g.c ∷ [])) rest w;
    }

head_read : (lines : List LineText) (saids : List Line) (m : Model) (hs fs : List (List ℕ)) (q : Place) → is_complete q ≡ true
    → SaysModel saids m → Reads bodies opening lines (saids ++ map claim_line (map holds hs ++ map fails fs)) q
    → AllByRecursion IsWritable (saids ++ map claim_line (map holds hs ++ map fails fs)) → HeadRead m hs fs (map claim_line (map holds hs ++ map fails fs))
head_read lines saids (Bodies.table size entries) hs fs q complete says reads w = table_read lines saids size entries hs fs q complete says reads w
head_read lines saids (Bodies.linear l) hs fs q complete says reads w = linear_read lines saids l hs fs q complete says reads w
head_read lines saids (Bodies.matrix g) hs fs q complete says reads w = matrix_read lines saids g hs fs q complete says reads w
head_read lines saids (Bodies.rules v rs) hs fs q complete says reads w = rules_read lines saids v rs hs fs q complete says reads w

pub model_writable : (lines : List LineText) (saids : List Line) (m : Model) (c : Claims) (q : Place) → is_complete q ≡ true → Reads bodies opening lines saids q
    → AllByRecursion IsWritable saids → SaysClaimed saids m c → IsWritableModel m × AreWritableClaims c
model_writable lines saids m c q complete reads writable s =
    let e = s.says_claims in
    let whole : saids ≡ s.head ++ map claim_line (map holds e.held ++ map fails e.failed) = s.whole ∙ ap (λ z. s.head ++ map claim_line z) e.whole in
    let read = head_read lines s.head m e.held e.failed q complete s.says_model (subst (λ (z : List Line). Reads bodies opening lines z q) whole reads) (subst (AllByRecursion IsWritable) whole writable) in
    let held = held_small saids e.held (map fails e.failed) read.behind in (
      read.writable,
      record {
        some_hold = rw e.holds_are read.claims.some_hold;
        some_fail = rw e.fails_are read.claims.some_fail;
        holds_small = rw e.holds_are held.0;
        fails_small = rw e.fails_are (failed_small e.failed held.1);
      },
    )
