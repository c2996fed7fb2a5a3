-- Lines tell one magma, and make one list of claims.
use Rattle.std.proofs.Common.{◌≡◌, ℕ, List, [], ◌∷◌, ◌++◌, map, refl, sym, ap, ◌∙◌, Option, Some, None, append_assoc, append-nil}
use Rattle.std.specs.List.{concat}
use Rattle.etp_lines.specs.TableLines.{TableLine, table, row}
use Rattle.etp_matrix.specs.Magmas.{MatrixMagma}
use Rattle.etp_matrix.specs.declared.parts.Part.{Part}
use Rattle.etp_matrix.specs.declared.parts.Part.TheVariants.{A, B, C}
use Rattle.etp_lines.specs.MatrixLines as Matrices
use Rattle.etp_lines.specs.MatrixLines.{MatrixLine, rows_of}
use Rattle.etp_theory.specs.Trees.{Equation}
use Rattle.etp_lines.specs.RulesLines as Systems
use Rattle.etp_lines.specs.RulesLines.{RulesLine, rule, system_lines}
use Rattle.etp_lines.specs.Claims.{ClaimLine, holds, fails, Claims}
use Rattle.etp_lines.specs.BodyLines.{Line, of_tables, of_linear, of_matrices, of_rules, of_claims, table_line, matrix_line, rules_line, claim_line}
use Rattle.etp_items.specs.Bodies.{Model}
use Rattle.etp_items.specs.Bodies as Bodies
use Rattle.etp_items.specs.Reading.{SaysModel, SaysClaimed}
use Rattle.etp_items.proofs.MatrixRows.{rows_split}

-- the entries of the rows among lines
abbrev pub entries_in : List Line → List ℕ
entries_in [] = []
entries_in ((of_tables, row entries) ∷ lines) = entries ++ entries_in lines
entries_in (_ ∷ lines) = entries_in lines

-- numbers of a part where they are those of this one
abbrev pub of_part : Part → Part → List ℕ → List ℕ
of_part A A numbers = numbers
of_part B B numbers = numbers
of_part C C numbers = numbers
of_part _ _ numbers = []

-- the numbers of a part among lines
abbrev pub part_in : Part → List Line → List ℕ
part_in p [] = []
part_in p ((of_matrices, Matrices.row q numbers) ∷ lines) = of_part p q numbers ++ part_in p lines
part_in p (_ ∷ lines) = part_in p lines

-- the rules among lines
abbrev pub rules_in : List Line → List Equation
rules_in [] = []
rules_in ((of_rules, rule r) ∷ lines) = r ∷ rules_in lines
rules_in (_ ∷ lines) = rules_in lines

-- the laws that hold, and those that fail, among lines
abbrev pub holds_in : List Line → List ℕ
holds_in [] = []
holds_in ((of_claims, holds numbers) ∷ lines) = numbers ++ holds_in lines
holds_in (_ ∷ lines) = holds_in lines

abbrev pub fails_in : List Line → List ℕ
fails_in [] = []
fails_in ((of_claims, fails numbers) ∷ lines) = numbers ++ fails_in lines
fails_in (_ ∷ lines) = fails_in lines

-- the magma that the first line begins
abbrev pub model_in : List Line → Option Model
model_in ((of_tables, table size) ∷ lines) = Some (Bodies.table size (entries_in lines))
model_in ((of_linear, l) ∷ lines) = Some (Bodies.linear l)
model_in ((of_matrices, Matrices.matrix modulus size) ∷ lines) =
    Some (Bodies.matrix (record { modulus = modulus; size = size; a = part_in A lines; b = part_in B lines; c = part_in C lines }))
model_in ((of_rules, Systems.rules) ∷ (of_rules, Systems.weight on_left on_right added) ∷ lines) =
    Some (Bodies.rules (record { on_left = on_left; on_right = on_right; added = added }) (rules_in lines))
model_in _ = None

rows_entries : (rs : List (List ℕ)) (ls : List Line) → entries_in (map table_line (map row rs) ++ ls) ≡ concat rs ++ entries_in ls
rows_entries [] ls = refl
rows_entries (r ∷ rs) ls = ap (λ z. r ++ z) (rows_entries rs ls) ∙ sym (append_assoc r (concat rs) (entries_in ls))

claims_entries : (cs : List ClaimLine) → entries_in (map claim_line cs) ≡ []
claims_entries [] = refl
claims_entries (holds n ∷ cs) = claims_entries cs
claims_entries (fails n ∷ cs) = claims_entries cs

same_part : (p : Part) (numbers : List ℕ) → of_part p p numbers ≡ numbers
same_part A numbers = refl
same_part B numbers = refl
same_part C numbers = refl

part_rows : (p : Part) (rs : List (List ℕ)) (ls : List Line) → part_in p (map matrix_line (map (Matrices.row p) rs) ++ ls) ≡ concat rs ++ part_in p ls
part_rows p [] ls = refl
part_rows p (r ∷ rs) ls = ap (λ z. z ++ part_in p (map matrix_line (map (Matrices.row p) rs) ++ ls)) (same_part p r) ∙ ap (λ z. r ++ z) (part_rows p rs ls) ∙ sym (append_assoc r (concat rs) (part_in p ls))

part_skips : (p q : Part) (rs : List (List ℕ)) (ls : List Line) → ((numbers : List ℕ) → of_part p q numbers ≡ []) → part_in p (map matrix_line (map (Matrices.row q) rs) ++ ls) ≡ part_in p ls
part_skips p q [] ls other = refl
part_skips p q (r ∷ rs) ls other = ap (λ z. z ++ part_in p (map matrix_line (map (Matrices.row q) rs) ++ ls)) (other r) ∙ part_skips p q rs ls other

claims_part : (p : Part) (cs : List ClaimLine) → part_in p (map claim_line cs) ≡ []
claims_part p [] = refl
claims_part p (holds n ∷ cs) = claims_part p cs
claims_part p (fails n ∷ cs) = claims_part p cs

-- the numbers of each part among its rows and claims
module _ (a b c : List (List ℕ)) (cs : List ClaimLine) where
  abbrev behind_c : List Line
  behind_c = map claim_line cs

  abbrev behind_b : List Line
  behind_b = map matrix_line (map (Matrices.row C) c) ++ map claim_line cs

  abbrev behind_a : List Line
  behind_a = map matrix_line (map (Matrices.row B) b) ++ (map matrix_line (map (Matrices.row C) c) ++ map claim_line cs)

  a_told : part_in A (map matrix_line (rows_of a b c) ++ map claim_line cs) ≡ concat a
  a_told =
      ap (part_in A) (rows_split a b c (map claim_line cs)) ∙ part_rows A a behind_a
      ∙ ap (λ z. concat a ++ z) (part_skips A B b behind_b (λ n. refl) ∙ part_skips A C c behind_c (λ n. refl) ∙ claims_part A cs) ∙ append-nil (concat a)

  b_told : part_in B (map matrix_line (rows_of a b c) ++ map claim_line cs) ≡ concat b
  b_told =
      ap (part_in B) (rows_split a b c (map claim_line cs)) ∙ part_skips B A a behind_a (λ n. refl) ∙ part_rows B b behind_b
      ∙ ap (λ z. concat b ++ z) (part_skips B C c behind_c (λ n. refl) ∙ claims_part B cs) ∙ append-nil (concat b)

  c_told : part_in C (map matrix_line (rows_of a b c) ++ map claim_line cs) ≡ concat c
  c_told =
      ap (part_in C) (rows_split a b c (map claim_line cs)) ∙ part_skips C A a behind_a (λ n. refl) ∙ part_skips C B b behind_b (λ n. refl) ∙ part_rows C c behind_c
      ∙ ap (λ z. concat c ++ z) (claims_part C cs) ∙ append-nil (concat c)

rules_among : (rs : List Equation) (cs : List ClaimLine) → rules_in (map rules_line (map rule rs) ++ map claim_line cs) ≡ rs
rules_among [] [] = refl
rules_among [] (holds n ∷ cs) = rules_among [] cs
rules_among [] (fails n ∷ cs) = rules_among [] cs
rules_among (r ∷ rs) cs = ap (λ z. r ∷ z) (rules_among rs cs)

same_matrix : (g : MatrixMagma) (a b c : List ℕ) → a ≡ g.a → b ≡ g.b → c ≡ g.c → Path MatrixMagma (record { modulus = g.modulus; size = g.size; a = a; b = b; c = c }) g
same_matrix g a b c e f h =
    ap (λ z. record { modulus = g.modulus; size = g.size; a = z; b = b; c = c }) e ∙ ap (λ z. record { modulus = g.modulus; size = g.size; a = g.a; b = z; c = c }) f
    ∙ ap (λ z. record { modulus = g.modulus; size = g.size; a = g.a; b = g.b; c = z }) h

pub model_told : (head : List Line) (cs : List ClaimLine) (m : Model) → SaysModel head m → model_in (head ++ map claim_line cs) ≡ Some m
model_told head cs (Bodies.table size entries) (lines, e, s) =
    ap (λ (z : List Line). model_in (z ++ map claim_line cs)) (e ∙ ap (map table_line) s.whole)
    ∙ ap (λ z. Some (Bodies.table size z)) (rows_entries s.rows (map claim_line cs) ∙ ap (λ z. concat s.rows ++ z) (claims_entries cs) ∙ append-nil (concat s.rows) ∙ sym s.entries_are)
model_told head cs (Bodies.linear l) e = ap (λ (z : List Line). model_in (z ++ map claim_line cs)) e
model_told head cs (Bodies.matrix g) (lines, e, s) =
    ap (λ (z : List Line). model_in (z ++ map claim_line cs)) (e ∙ ap (map matrix_line) s.whole)
    ∙ ap (λ (z : MatrixMagma). Some (Bodies.matrix z))
    (same_matrix g _ _ _ (a_told s.a s.b (g.c ∷ []) cs ∙ sym s.a_is) (b_told s.a s.b (g.c ∷ []) cs ∙ sym s.b_is) (c_told s.a s.b (g.c ∷ []) cs ∙ append-nil g.c))
model_told head cs (Bodies.rules w rs) e = ap (λ (z : List Line). model_in (z ++ map claim_line cs)) e ∙ ap (λ (z : List Equation). Some (Bodies.rules w z)) (rules_among rs cs)

tables_hold : (ts : List TableLine) (ls : List Line) → holds_in (map table_line ts ++ ls) ≡ holds_in ls
tables_hold [] ls = refl
tables_hold (t ∷ ts) ls = tables_hold ts ls

tables_fail : (ts : List TableLine) (ls : List Line) → fails_in (map table_line ts ++ ls) ≡ fails_in ls
tables_fail [] ls = refl
tables_fail (t ∷ ts) ls = tables_fail ts ls

matrices_hold : (ms : List MatrixLine) (ls : List Line) → holds_in (map matrix_line ms ++ ls) ≡ holds_in ls
matrices_hold [] ls = refl
matrices_hold (m ∷ ms) ls = matrices_hold ms ls

matrices_fail : (ms : List MatrixLine) (ls : List Line) → fails_in (map matrix_line ms ++ ls) ≡ fails_in ls
matrices_fail [] ls = refl
matrices_fail (m ∷ ms) ls = matrices_fail ms ls

rules_hold : (ms : List RulesLine) (ls : List Line) → holds_in (map rules_line ms ++ ls) ≡ holds_in ls
rules_hold [] ls = refl
rules_hold (m ∷ ms) ls = rules_hold ms ls

rules_fail : (ms : List RulesLine) (ls : List Line) → fails_in (map rules_line ms ++ ls) ≡ fails_in ls
rules_fail [] ls = refl
rules_fail (m ∷ ms) ls = rules_fail ms ls

-- the lines of a magma have no claims
head_holds : (head : List Line) (m : Model) (ls : List Line) → SaysModel head m → holds_in (head ++ ls) ≡ holds_in ls
head_holds head (Bodies.table size entries) ls (lines, e, s) = ap (λ z. holds_in (z ++ ls)) e ∙ tables_hold lines ls
head_holds head (Bodies.linear l) ls e = ap (λ z. holds_in (z ++ ls)) e
head_holds head (Bodies.matrix g) ls (lines, e, s) = ap (λ z. holds_in (z ++ ls)) e ∙ matrices_hold lines ls
head_holds head (Bodies.rules w rs) ls e = ap (λ z. holds_in (z ++ ls)) e ∙ rules_hold (system_lines w rs) ls

head_fails : (head : List Line) (m : Model) (ls : List Line) → SaysModel head m → fails_in (head ++ ls) ≡ fails_in ls
head_fails head (Bodies.table size entries) ls (lines, e, s) = ap (λ z. fails_in (z ++ ls)) e ∙ tables_fail lines ls
head_fails head (Bodies.linear l) ls e = ap (λ z. fails_in (z ++ ls)) e
head_fails head (Bodies.matrix g) ls (lines, e, s) = ap (λ z. fails_in (z ++ ls)) e ∙ matrices_fail lines ls
head_fails head (Bodies.rules w rs) ls e = ap (λ z. fails_in (z ++ ls)) e ∙ rules_fail (system_lines w rs) ls

failed_hold : (fs : List (List ℕ)) → holds_in (map claim_line (map fails fs)) ≡ []
failed_hold [] = refl
failed_hold (f ∷ fs) = failed_hold fs

held_hold : (hs fs : List (List ℕ)) → holds_in (map claim_line (map holds hs ++ map fails fs)) ≡ concat hs
held_hold [] fs = failed_hold fs
held_hold (h ∷ hs) fs = ap (λ z. h ++ z) (held_hold hs fs)

failed_fail : (fs : List (List ℕ)) → fails_in (map claim_line (map fails fs)) ≡ concat fs
failed_fail [] = refl
failed_fail (f ∷ fs) = ap (λ z. f ++ z) (failed_fail fs)

held_fail : (hs fs : List (List ℕ)) → fails_in (map claim_line (map holds hs ++ map fails fs)) ≡ concat fs
held_fail [] fs = failed_fail fs
held_fail (h ∷ hs) fs = held_fail hs fs

same_claims : (c d : Claims) → c.holds ≡ d.holds → c.fails ≡ d.fails → c ≡ d
same_claims c d e f = ap (λ z. record { holds = z; fails = c.fails }) e ∙ ap (λ z. record { holds = d.holds; fails = z }) f

-- the laws of the claims are those of the lines
pub claims_told : (saids : List Line) (m : Model) (c : Claims) → SaysClaimed saids m c → (holds_in saids ≡ c.holds) × (fails_in saids ≡ c.fails)
claims_told saids m c s =
    let lines = s.says_claims.whole in (
      ap holds_in s.whole ∙ head_holds s.head m (map claim_line s.behind) s.says_model ∙ ap (λ z. holds_in (map claim_line z)) lines ∙ held_hold s.says_claims.held s.says_claims.failed ∙ sym s.says_claims.holds_are,
      ap fails_in s.whole ∙ head_fails s.head m (map claim_line s.behind) s.says_model ∙ ap (λ z. fails_in (map claim_line z)) lines ∙ held_fail s.says_claims.held s.says_claims.failed ∙ sym s.says_claims.fails_are,
    )

pub model_is : (saids : List Line) (m : Model) (c : Claims) → SaysClaimed saids m c → model_in saids ≡ Some m
model_is saids m c s = ap model_in s.whole ∙ model_told s.head s.behind m s.says_model

some_same : (m n : Model) → Some m ≡ Some n → m ≡ n
some_same m n e = cc

pub one_model : (saids : List Line) (m n : Model) (c d : Claims) → SaysClaimed saids m c → SaysClaimed saids n d → (m ≡ n) × (c ≡ d)
one_model saids m n c d s t =
    let a = claims_told saids m c s in
    let b = claims_told saids n d t in (
      some_same m n (sym (model_is saids m c s) ∙ model_is saids n d t),
      same_claims c d (sym a.0 ∙ b.0) (sym a.1 ∙ b.1),
    )
