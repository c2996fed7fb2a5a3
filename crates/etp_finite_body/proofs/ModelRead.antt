-- Lines that begin a table or a linear magma with a modulus, and are a body, are such a magma.
use Rattle.std.proofs.Common.{◌≡◌, ◌≢◌, ℕ, inl, inr, Bool, List, [], ◌∷◌, ◌++◌, codes, map, refl, sym, ap, ◌∙◌, subst, Some}
use Rattle.etp_io.specs.Texts.{LineText, whole, too_long}
use Rattle.etp_words.specs.Words.{words_of}
use Rattle.etp_reading.specs.Reading.{Reads}
use Rattle.etp_linear.specs.Magmas.{LinearMagma}
use Rattle.etp_linear.specs.declared.parts.Ring.{Ring}
use Rattle.etp_linear.specs.declared.parts.Ring.TheVariants.{Integers, Modulo}
use Rattle.etp_lines.specs.ProofLines.{Version, heading}
use Rattle.etp_lines.specs.LinearLines.{SaysLinear, BeginsRing}
use Rattle.etp_lines.specs.MatrixLines as Matrices
use Rattle.etp_lines.specs.RulesLines as Systems
use Rattle.etp_lines.specs.BodyLines.{Kind, of_tables, of_linear, kind_named, Line, Says, opening, Place, proof_line, linear_line, matrix_line, rules_line, claim_line, bodies}
use Rattle.etp_lines.proofs.OneLine.{one_line, blank_line, none_of_kind}
use Rattle.etp_items.specs.Bodies.{FileBody, Model, table, linear, matrix, rules, proof, model}
use Rattle.etp_items.specs.Reading.{SaysModel, SaysBody, IsReadBody}
use Rattle.etp_finite_body.specs.Reading.{FirstIs, IsModel, IsFiniteModel}
use Rattle.etp_finite_body.specs.Work.{BeginsFinite}

-- the first line that says something
pub record FirstSaid (saids : List Line) : Type 0 where
  pub line : List ℕ
  pub said : Line
  pub more : List Line
  pub whole_said : saids ≡ said ∷ more
  pub says : Says line said
  pub begins : BeginsFinite (whole line)

first_said : (lines : List LineText) (saids : List Line) (come : Place) → Reads bodies opening lines saids come → FirstIs BeginsFinite lines → FirstSaid saids
first_said [] saids come r h = absurd h
first_said (too_long ∷ xs) saids come r h = absurd r
first_said (whole line ∷ xs) saids come (inl r) (inl h) = absurd (h.1 r.0)
first_said (whole line ∷ xs) saids come (inl r) (inr h) = first_said xs saids come r.1 h.1
first_said (whole line ∷ xs) saids come (inr r) (inl h) = record { line = line; said = r.0; more = r.2; whole_said = r.6; says = r.3; begins = h.0 }
first_said (whole line ∷ xs) saids come (inr r) (inr h) = absurd (blank_line line r.0 h.0 r.3)

-- a line with the first word of one kind says nothing of another
other_kind : (line word : List ℕ) (more : List (List ℕ)) (k : Kind) → words_of line ≡ word ∷ more → kind_named word ≡ Some k → (said : Line) → Says line said → said.0 ≢ k → ⊥
other_kind line word more k w n said s apart =
    none_of_kind line word more k w n (λ l t. apart (ap (λ (z : Line). z.0) (one_line line said (k, l) s t))) said s

finite_kind : (line : List ℕ) (said : Line) → Says line said → IsModel (whole line) → said.0 ≢ of_tables → said.0 ≢ of_linear → ⊥
finite_kind line said s (more, inl w) t l = other_kind line (codes "table") more of_tables w refl said s t
finite_kind line said s (more, inr w) t l = other_kind line (codes "linear") more of_linear w refl said s l

-- the first line says something of this other kind
module _ (saids : List Line) (f : FirstSaid saids) where
  first_is : (said : Line) (more : List Line) → saids ≡ said ∷ more → f.said ≡ said
  first_is said more e = let g : Path (List Line) (f.said ∷ f.more) (said ∷ more) = sym f.whole_said ∙ e in cc

  no_proof_first : (said : Line) (more : List Line) → saids ≡ said ∷ more → said.0 ≢ of_tables → said.0 ≢ of_linear → ⊥
  no_proof_first said more e t l =
      let s : Says f.line said = subst (Says f.line) (first_is said more e) f.says in
      finite_kind f.line said s f.begins.0 t l

  ring_first : (l : LinearMagma) (more : List Line) → saids ≡ linear_line l ∷ more → (m : ℕ) × (l.ring ≡ Modulo m)
  ring_first l more e =
      let s : SaysLinear f.line l = subst (Says f.line) (first_is (linear_line l) more e) f.says in
      go l.ring refl s
    where
      go : (ring : Ring) → l.ring ≡ ring → SaysLinear f.line l → (m : ℕ) × (l.ring ≡ Modulo m)
      go (Modulo m) q s = (m, q)
      go Integers q s =
          let r : BeginsRing s.more Integers (s.a ∷ s.b ∷ s.c ∷ []) = subst (λ (z : Ring). BeginsRing s.more z (s.a ∷ s.b ∷ s.c ∷ [])) q s.ring_said in
          absurd (f.begins.1 (s.a ∷ s.b ∷ s.c ∷ [], inr (s.words ∙ ap (λ z. codes "linear" ∷ z) r)))

  proof_apart : (v : Version) (hypothesis goal : ℕ) (more : List Line) → saids ≡ proof_line (heading v hypothesis goal) ∷ more → ⊥
  proof_apart v h g more e = no_proof_first (proof_line (heading v h g)) more e (λ q. cc) (λ q. cc)

  matrix_apart : (x : Matrices.MatrixLine) (more : List Line) → saids ≡ matrix_line x ∷ more → ⊥
  matrix_apart x more e = no_proof_first (matrix_line x) more e (λ q. cc) (λ q. cc)

  rules_apart : (more : List Line) → saids ≡ rules_line Systems.rules ∷ more → ⊥
  rules_apart more e = no_proof_first (rules_line Systems.rules) more e (λ q. cc) (λ q. cc)

-- a body of such lines
abbrev pub IsFiniteBody : FileBody → Type 0
IsFiniteBody (proof p) = ⊥
IsFiniteBody (model m claims) = IsFiniteModel m

model_said : (head : List Line) (m : Model) (behind : List Line) (saids : List Line) → saids ≡ head ++ behind → SaysModel head m → FirstSaid saids → IsFiniteModel m
model_said head (table size entries) behind saids e s f = tt
model_said head (linear l) behind saids e s f = ring_first saids f l behind (e ∙ ap (λ z. z ++ behind) s)
model_said head (matrix g) behind saids e s f =
    matrix_apart saids f (Matrices.matrix g.modulus g.size) (map matrix_line (Matrices.rows_of s.2.a s.2.b (g.c ∷ [])) ++ behind)
    (e ∙ ap (λ z. z ++ behind) (s.1 ∙ ap (map matrix_line) s.2.whole))
model_said head (rules w rs) behind saids e s f =
    rules_apart saids f _ (e ∙ ap (λ z. z ++ behind) s)

body_said : (saids : List Line) (b : FileBody) → SaysBody saids b → FirstSaid saids → IsFiniteBody b
body_said saids (proof p) s f = proof_apart saids f s.0 p.hypothesis p.goal _ s.1
body_said saids (model m claims) s f = model_said s.head m (map claim_line s.behind) saids s.whole s.says_model f

pub finite_read : (count : ℕ) (lines : List LineText) (closed : Bool) (b : FileBody) → IsReadBody count lines closed b → FirstIs BeginsFinite lines → IsFiniteBody b
finite_read count lines closed b r h =
    body_said r.is_body.saids b r.is_body.says (first_said lines r.is_body.saids r.is_body.are_whole.come r.is_body.are_whole.reads h)
