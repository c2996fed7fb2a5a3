-- What the first line of a body says.
use Rattle.std.proofs.Common.{◌≡◌, ◌≢◌, ℕ, inl, inr, Bool, List, [], ◌∷◌, ◌++◌, codes, map, get_or, refl, sym, ap, ◌∙◌, subst, arith, Some}
use Rattle.etp_io.specs.Texts.{LineText, whole, too_long}
use Rattle.etp_words.specs.Words.{words_of}
use Rattle.etp_reading.specs.Grammars.{Grammar, OneLine}
use Rattle.etp_reading.specs.Reading.{Reads}
use Rattle.etp_linear.specs.Magmas.{LinearMagma}
use Rattle.etp_linear.specs.declared.parts.Ring.{Ring}
use Rattle.etp_linear.specs.declared.parts.Ring.TheVariants.{Modulo}
use Rattle.etp_lines.specs.ProofLines.{Version, heading}
use Rattle.etp_lines.specs.TableLines.{SaysTable, table as sized, row}
use Rattle.etp_lines.specs.LinearLines.{SaysLinear, BeginsRing}
use Rattle.etp_lines.specs.BodyLines.{Kind, of_tables, of_linear, of_rules, kind_named, Line, Says, opening, proof_line, table_line, linear_line, claim_line, bodies}
use Rattle.etp_lines.proofs.OneLine.{one, one_line, none_of_kind}
use Rattle.etp_lines.specs.Claims.{Claims}
use Rattle.etp_items.specs.Bodies.{Model, table, linear, matrix, rules, model}
use Rattle.etp_items.specs.Reading.{IsReadBody, SaysModel}
use Rattle.etp_finite_lines.specs.FiniteLines.{body, finite_proofs}
use Rattle.etp_finite_body.specs.Reading.{FirstIs, IsModel, IsInfinite, IsFiniteModel}
use Rattle.etp_finite_body.specs.Work.{BeginsFinite}
use Rattle.etp_finite_body.proofs.FirstLemmas.{first_weaker}

-- the text is a line that says this
abbrev pub SaysText : (g : Grammar) → g.Line → LineText → Type 0
SaysText g s too_long = ⊥
SaysText g s (whole line) = g.Says line s

-- the first line that isn't blank says the first of what the lines say
pub first_says : (g : Grammar) → OneLine g → (p : g.Place) (lines : List LineText) (s : g.Line) (more : List g.Line) (q : g.Place)
    → Reads g p lines (s ∷ more) q → FirstIs (SaysText g s) lines
first_says g o p [] s more q r = let e : Path (List g.Line) (s ∷ more) [] = r.0 in absurd (cc)
first_says g o p (too_long ∷ xs) s more q r = absurd r
first_says g o p (whole line ∷ xs) s more q (inl r) = inr (r.0, first_says g o p xs s more q r.1)
first_says g o p (whole line ∷ xs) s more q (inr r) =
    let e : Path (List g.Line) (s ∷ more) (r.0 ∷ r.2) = r.6 in
    let same : r.0 ≡ s = cc in
    inl (subst (g.Says line) same r.3, λ blank. o.blank_line line r.0 blank r.3)

-- a line with the first word of one kind says nothing of another
other_kind : (line word : List ℕ) (more : List (List ℕ)) (k : Kind) → words_of line ≡ word ∷ more → kind_named word ≡ Some k → (said : Line) → Says line said → said.0 ≢ k → ⊥
other_kind line word more k w n said s apart =
    none_of_kind line word more k w n (λ l t. apart (ap (λ (z : Line). z.0) (one_line line said (k, l) s t))) said s

-- a heading begins neither a magma nor what has no finite carrier
pub heading_apart : (v : Version) (h g : ℕ) (x : LineText) → SaysText bodies (proof_line (heading v h g)) x → IsModel x → ⊥
heading_apart v h g too_long s m = s
heading_apart v h g (whole line) s (more, inl w) = other_kind line (codes "table") more of_tables w refl (proof_line (heading v h g)) s (λ q. cc)
heading_apart v h g (whole line) s (more, inr w) = other_kind line (codes "linear") more of_linear w refl (proof_line (heading v h g)) s (λ q. cc)

pub heading_finite : (v : Version) (h g : ℕ) (x : LineText) → SaysText bodies (proof_line (heading v h g)) x → IsInfinite x → ⊥
heading_finite v h g too_long s m = s
heading_finite v h g (whole line) s (more, inl w) = other_kind line (codes "rules") more of_rules w refl (proof_line (heading v h g)) s (λ q. cc)
heading_finite v h g (whole line) s (more, inr w) = other_kind line (codes "linear") (codes "int" ∷ more) of_linear w refl (proof_line (heading v h g)) s (λ q. cc)

-- a table, and a linear magma with a modulus, begin as such
table_finite : (line : List ℕ) (size : ℕ) → SaysTable line size → IsInfinite (whole line) → ⊥
table_finite line size s (more, inl w) = other_kind line (codes "rules") more of_rules w refl (table_line (sized size)) s (λ q. cc)
table_finite line size s (more, inr w) = other_kind line (codes "linear") (codes "int" ∷ more) of_linear w refl (table_line (sized size)) s (λ q. cc)

table_begins : (size : ℕ) (x : LineText) → SaysText bodies (table_line (sized size)) x → BeginsFinite x
table_begins size too_long s = absurd s
table_begins size (whole line) s = ((s.word ∷ [], inl s.words), table_finite line size s)

first_letter : (u v : List ℕ) (m n : List (List ℕ)) → Path (List (List ℕ)) (u ∷ m) (v ∷ n) → get_or u 0 0 ≡ get_or v 0 0
first_letter u v m n e = let f : u ≡ v = cc in ap (λ (z : List ℕ). get_or z 0 0) f

behind_first : (u v : List ℕ) (m n : List (List ℕ)) → Path (List (List ℕ)) (u ∷ m) (v ∷ n) → m ≡ n
behind_first u v m n e = cc

linear_finite : (line : List ℕ) (l : LinearMagma) (m : ℕ) → l.ring ≡ Modulo m → SaysLinear line l → IsInfinite (whole line) → ⊥
linear_finite line l m e s (more, inl w) = other_kind line (codes "rules") more of_rules w refl (linear_line l) s (λ q. cc)
linear_finite line l m e s (more, inr w) =
    let ring : BeginsRing s.more (Modulo m) (s.a ∷ s.b ∷ s.c ∷ []) = subst (λ (z : Ring). BeginsRing s.more z (s.a ∷ s.b ∷ s.c ∷ [])) e s.ring_said in
    let int : s.more ≡ codes "int" ∷ more = behind_first (codes "linear") (codes "linear") s.more (codes "int" ∷ more) (sym s.words ∙ w) in
    let letters : 109 ≡ 105 = first_letter (codes "mod") (codes "int") (ring.0 ∷ s.a ∷ s.b ∷ s.c ∷ []) more (sym ring.1 ∙ int) in
    absurd (omega (arith, letters))

linear_begins : (l : LinearMagma) (m : ℕ) → l.ring ≡ Modulo m → (x : LineText) → SaysText bodies (linear_line l) x → BeginsFinite x
linear_begins l m e too_long s = absurd s
linear_begins l m e (whole line) s = ((s.more, inr s.words), linear_finite line l m e s)

-- the lines of such a magma do
module _ (lines : List LineText) (saids : List Line) where
  from_first : (said : Line) (more : List Line) → saids ≡ said ∷ more → (come : bodies.Place) → Reads bodies opening lines saids come → FirstIs (SaysText bodies said) lines
  from_first said more e come r = first_says bodies one opening lines said more come (subst (λ (z : List Line). Reads bodies opening lines z come) e r)

pub model_first : (count : ℕ) (lines : List LineText) (closed : Bool) (m : Model) (c : Claims) → IsFiniteModel m → IsReadBody count lines closed (model m c) → FirstIs BeginsFinite lines
model_first count lines closed m c fin r = go m fin r.is_body.says.says_model
  where
    go : (n : Model) → IsFiniteModel n → SaysModel r.is_body.says.head n → FirstIs BeginsFinite lines
    go (table size entries) f s =
        let e = r.is_body.says.whole ∙ ap (λ (z : List Line). z ++ map claim_line r.is_body.says.behind) (s.1 ∙ ap (map table_line) s.2.whole) in
        first_weaker (SaysText bodies (table_line (sized size))) BeginsFinite lines (table_begins size)
        (from_first lines r.is_body.saids (table_line (sized size)) (map table_line (map row s.2.rows) ++ map claim_line r.is_body.says.behind) e r.is_body.are_whole.come r.is_body.are_whole.reads)
    go (linear l) f s =
        let e = r.is_body.says.whole ∙ ap (λ (z : List Line). z ++ map claim_line r.is_body.says.behind) s in
        first_weaker (SaysText bodies (linear_line l)) BeginsFinite lines (linear_begins l f.0 f.1)
        (from_first lines r.is_body.saids (linear_line l) (map claim_line r.is_body.says.behind) e r.is_body.are_whole.come r.is_body.are_whole.reads)
    go (matrix g) f s = absurd f
    go (rules w rs) f s = absurd f

-- what a line of a finite proof says as a line of a body
pub as_body : (s : Line) (x : LineText) → SaysText finite_proofs (body s) x → SaysText bodies s x
as_body s too_long h = h
as_body s (whole line) h = h
