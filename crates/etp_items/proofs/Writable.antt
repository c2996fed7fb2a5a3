-- What is read can be written.
use Rattle.std.proofs.Common.{◌≡◌, ℕ, ◌+◌, ◌<◌, ◌≤◌, ◌^◌, arith, Bool, true, false, cond, nat_lt, nat_eq, List, [], ◌∷◌, ◌++◌, length, map, refl, sym, ap, subst, ◌∙◌, inl, inr, Option, Some, None}
use Rattle.std.specs.List.{AllByRecursion}
use Rattle.std.specs.Option.{option_map}
use Rattle.std.proofs.lemmas.Bool.{ltb-true}
use Rattle.std.proofs.lemmas.List.Elements.{All-from_recursion}
use Rattle.etp_theory.specs.Trees.{Tree, bound}
use Rattle.etp_theory.specs.Proofs.{Lemma}
use Rattle.etp_text.specs.Grammar.{Begins, IsAtom, IsSide, variable, enclosed, alone, joined, SpellsTerm}
use Rattle.etp_io.specs.Texts.{LineText, whole, too_long}
use Rattle.etp_words.specs.Numbers.{number_said}
use Rattle.etp_lines.specs.TableLines.{table, row}
use Rattle.etp_lines.specs.MatrixLines as Matrices
use Rattle.etp_lines.specs.RulesLines as Systems
use Rattle.etp_lines.specs.Claims.{holds, fails}
use Rattle.etp_items.specs.Bodies.{FileBody, proof, model}
use Rattle.etp_reading.specs.Reading.{Reads}
use Rattle.etp_lines.specs.ProofLines.{Version, plain, citing, ProofLine, heading, cite, lemma, step, SaysProofLine, reference_of, headed, cite_limit}
use Rattle.etp_lines.specs.BodyLines.{Line, of_proofs, of_tables, of_linear, of_matrices, of_rules, of_claims, Place, opening, in_proof, proof_line, Says, after, is_complete, bodies}
use Rattle.etp_items.specs.Reading.{lemma_lines, proof_lines, IsBody}
use Rattle.etp_items.specs.Written.{IsWritable, IsWritableProofLine, IsWritableBody, version_for}
use Rattle.etp_items.proofs.NumbersFit.{number_fits}
use Rattle.etp_items.proofs.LinearLemmas.{linear_writable}
use Rattle.etp_items.proofs.TermTexts.{begins_split}
use Rattle.etp_items.proofs.ClaimsRead.{numbers_small}
use Rattle.etp_items.proofs.ModelWritable.{model_writable}

-- the variables of a text have a name
mutual
  atom_named : (ts : List _) (t : Tree) → IsAtom ts t → (bytes rest : List ℕ) → Begins bytes ts rest → bound t ≤ 64
  atom_named _ _ (variable v) bytes rest (blanks, start, next, a, e, s, more) = omega (arith, s.is_token.0)
  atom_named _ _ (enclosed ts t side) bytes rest (blanks, start, next, a, e, s, more) =
      let cut = begins_split next ts _ rest more in side_named ts t side next cut.0 cut.1

  side_named : (ts : List _) (t : Tree) → IsSide ts t → (bytes rest : List ℕ) → Begins bytes ts rest → bound t ≤ 64
  side_named _ _ (alone ts t a) bytes rest h = atom_named ts t a bytes rest h
  side_named _ _ (joined ls l rs r a b) bytes rest h =
      let cut = begins_split bytes ls _ rest h in
      let left : bound l ≤ 64 = atom_named ls l a bytes cut.0 cut.1 in
      let right : bound r ≤ 64 = atom_named rs r b cut.2.2 rest cut.2.6 in
      omega arith

pub term_named : (bytes : List ℕ) (t : Tree) → SpellsTerm bytes t → bound t ≤ 64
term_named bytes t (ts, (rest, b, a), s) = side_named ts t s bytes rest b

abbrev pub numbered : Bool → ℕ → ℕ × Bool
numbered c n = (n, c)

mapped : (o : Option ℕ) (c d : Bool) (m : ℕ) → option_map (numbered c) o ≡ Some (m, d) → o ≡ Some m
mapped None c d m e = absurd (cc)
mapped (Some n) c d m e = ap Some (ap (λ (q : ℕ × Bool). q.0) (some_same (n, c) (m, d) e))
  where
    some_same : (p q : ℕ × Bool) → Some p ≡ Some q → p ≡ q
    some_same p q e = cc

reference_then : (is : Bool) (b : ℕ) (bytes : List ℕ) (m : ℕ) (d : Bool)
    → cond is (option_map (numbered true) (number_said bytes)) (option_map (numbered false) (number_said (b ∷ bytes))) ≡ Some (m, d) → m < 2 ^ 32
reference_then true b bytes m d e = number_fits bytes m (mapped (number_said bytes) true d m e)
reference_then false b bytes m d e = number_fits (b ∷ bytes) m (mapped (number_said (b ∷ bytes)) false d m e)

reference_fits : (w : List ℕ) (m : ℕ) (d : Bool) → reference_of w ≡ Some (m, d) → m < 2 ^ 32
reference_fits [] m d e = absurd (cc)
reference_fits (b ∷ bytes) m d e = reference_then (nat_eq b 99) b bytes m d e

-- what a line says can be written
proof_line_writable : (line : List ℕ) (l : ProofLine) → SaysProofLine line l → IsWritableProofLine l
proof_line_writable line (heading v e f) s = (number_fits s.first e s.from, number_fits s.second f s.to)
proof_line_writable line (cite name) s = s.named
proof_line_writable line (lemma t) s = (term_named _ t s.term.spelled, s.term.small)
proof_line_writable line (step x) s = (reference_fits s.reference x.line x.cited s.by, term_named _ x.to s.term.spelled, s.term.small)

says_writable : (line : List ℕ) (l : Line) → Says line l → IsWritable l
says_writable line (of_proofs, l) s = proof_line_writable line l s
says_writable line (of_tables, table size) s = number_fits s.word size s.said
says_writable line (of_tables, row entries) s = numbers_small line _ entries s
says_writable line (of_linear, l) s = linear_writable line l s
says_writable line (of_matrices, Matrices.matrix modulus size) s = (number_fits s.first modulus s.modulus_said, number_fits s.second size s.size_said)
says_writable line (of_matrices, Matrices.row part entries) s = numbers_small line _ entries s
says_writable line (of_rules, Systems.rules) s = tt
says_writable line (of_rules, Systems.weight on_left on_right added) s =
    (number_fits s.first on_left s.left_said, number_fits s.second on_right s.right_said, number_fits s.third added s.added_said)
says_writable line (of_rules, Systems.rule r) s = record {
  left_named = term_named s.left r.left s.left_spelled.spelled;
  right_named = term_named s.right r.right s.right_spelled.spelled;
  left_few = s.left_spelled.small;
  right_few = s.right_spelled.small;
}
says_writable line (of_claims, holds numbers) s = numbers_small line _ numbers s.says
says_writable line (of_claims, fails numbers) s = numbers_small line _ numbers s.says

reads_writable : (p q : Place) (xs : List LineText) (saids : List Line) → Reads bodies p xs saids q → AllByRecursion IsWritable saids
reads_writable p q [] saids h = subst (AllByRecursion IsWritable) (sym h.0) tt
reads_writable p q (too_long ∷ xs) saids h = absurd h
reads_writable p q (whole line ∷ xs) saids (inl h) = reads_writable p q xs saids h.1
reads_writable p q (whole line ∷ xs) saids (inr (said, next, more, says, a, h, e)) =
    subst (AllByRecursion IsWritable) (sym e) (says_writable line said says, reads_writable next q xs more h)

proof_writable : (ls : List ProofLine) → AllByRecursion IsWritable (map proof_line ls) → AllByRecursion IsWritableProofLine ls
proof_writable [] h = tt
proof_writable (l ∷ ls) h = (h.0, proof_writable ls h.1)

-- behind the heading
pub record Behind (v : Version) (saids : List ProofLine) (q : Place) : Type 0 where
  pub lines : List LineText
  pub reads : Reads bodies (in_proof (headed v 0)) lines (map proof_line saids) q

none_some : {A : Type 0} (a : A) → None ≡ Some a → ⊥
none_some a e = cc

same_head : (l m : Line) (ls ms : List Line) → Path (List Line) (l ∷ ls) (m ∷ ms) → l ≡ m
same_head l m ls ms e = cc

same_tail : (l m : Line) (ls ms : List Line) → Path (List Line) (l ∷ ls) (m ∷ ms) → ls ≡ ms
same_tail l m ls ms e = cc

no_lines : (l : Line) (ls : List Line) → Path (List Line) (l ∷ ls) [] → ⊥
no_lines l ls e = cc

behind_heading : (xs : List LineText) (v : Version) (e f : ℕ) (saids : List ProofLine) (q : Place)
    → Reads bodies opening xs (proof_line (heading v e f) ∷ map proof_line saids) q → Behind v saids q
behind_heading [] v e f saids q h = absurd (no_lines _ _ h.0)
behind_heading (too_long ∷ xs) v e f saids q h = absurd h
behind_heading (whole line ∷ xs) v e f saids q (inl h) = behind_heading xs v e f saids q h.1
behind_heading (whole line ∷ xs) v e f saids q (inr (said, next, more, says, a, h, eq)) =
    let first = same_head (proof_line (heading v e f)) said (map proof_line saids) more eq in
    let rest = same_tail (proof_line (heading v e f)) said (map proof_line saids) more eq in
    let there : Some (in_proof (headed v 0)) ≡ Some next = ap (after opening) first ∙ a in
    let place : in_proof (headed v 0) ≡ next = cc in
    record {
      lines = xs;
      reads = subst (λ (z : Place). Reads bodies z xs (map proof_line saids) q) (sym place) (subst (λ (z : List Line). Reads bodies next xs z q) (sym rest) h);
    }

-- a cite that stands
pub record CiteStands (v : Version) (n : ℕ) (next : Place) : Type 0 where
  pub few : n < cite_limit
  pub there : next ≡ in_proof (headed v (n + 1))

cite_then : (few : Bool) (n : ℕ) (next : Place) → few ≡ nat_lt n cite_limit → option_map in_proof (cond few (Some (headed citing (n + 1))) None) ≡ Some next → CiteStands citing n next
cite_then true n next e f = let k : in_proof (headed citing (n + 1)) ≡ next = cc in record { few = ltb-true n cite_limit (sym e); there = sym k }
cite_then false n next e f = absurd (none_some next f)

cite_stands : (v : Version) (n : ℕ) (name : List ℕ) (next : Place) → after (in_proof (headed v n)) (proof_line (cite name)) ≡ Some next → CiteStands v n next
cite_stands plain n name next e = absurd (none_some next e)
cite_stands citing n name next e = cite_then (nat_lt n cite_limit) n next refl e

few_cites : (xs : List LineText) (v : Version) (n : ℕ) (names : List (List ℕ)) (rest : List ProofLine) (q : Place) → n ≤ cite_limit
    → Reads bodies (in_proof (headed v n)) xs (map proof_line (map cite names ++ rest)) q → n + length names ≤ cite_limit
few_cites xs v n [] rest q few h = omega arith
few_cites [] v n (name ∷ names) rest q few h = absurd (no_lines _ _ h.0)
few_cites (too_long ∷ xs) v n (name ∷ names) rest q few h = absurd h
few_cites (whole line ∷ xs) v n (name ∷ names) rest q few (inl h) = few_cites xs v n (name ∷ names) rest q few h.1
few_cites (whole line ∷ xs) v n (name ∷ names) rest q few (inr (said, next, more, says, a, h, eq)) =
    let first = same_head (proof_line (cite name)) said (map proof_line (map cite names ++ rest)) more eq in
    let behind = same_tail (proof_line (cite name)) said (map proof_line (map cite names ++ rest)) more eq in
    let one = cite_stands v n name next (ap (after (in_proof (headed v n))) first ∙ a) in
    let on = few_cites xs v (n + 1) names rest q (omega (arith, one.few))
    (subst (λ (z : Place). Reads bodies z xs (map proof_line (map cite names ++ rest)) q) one.there (subst (λ (z : List Line). Reads bodies next xs z q) (sym behind) h)) in
    omega (arith, on)

not_complete : (v : Version) (n : ℕ) (q : Place) → q ≡ in_proof (headed v n) → is_complete q ≡ true → ⊥
not_complete v n q e c = let f : false ≡ true = sym (ap is_complete e) ∙ c in cc

-- cites alone are no body
no_lemma : (xs : List LineText) (v : Version) (q : Place) (n : ℕ) (names : List (List ℕ)) → is_complete q ≡ true → Reads bodies (in_proof (headed v n)) xs (map proof_line (map cite names ++ [])) q → ⊥
no_lemma [] v q n names c h = not_complete v n q h.1 c
no_lemma (too_long ∷ xs) v q n names c h = h
no_lemma (whole line ∷ xs) v q n names c (inl h) = no_lemma xs v q n names c h.1
no_lemma (whole line ∷ xs) v q n [] c (inr (said, next, more, says, a, h, eq)) = absurd (no_lines said more (sym eq))
no_lemma (whole line ∷ xs) v q n (name ∷ names) c (inr (said, next, more, says, a, h, eq)) =
    let first = same_head (proof_line (cite name)) said (map proof_line (map cite names ++ [])) more eq in
    let behind = same_tail (proof_line (cite name)) said (map proof_line (map cite names ++ [])) more eq in
    let one = cite_stands v n name next (ap (after (in_proof (headed v n))) first ∙ a) in
    no_lemma xs v q (n + 1) names c
    (subst (λ (z : Place). Reads bodies z xs (map proof_line (map cite names ++ [])) q) one.there (subst (λ (z : List Line). Reads bodies next xs z q) (sym behind) h))

some_lemma : (v : Version) (xs : List LineText) (names : List (List ℕ)) (ls : List Lemma) (q : Place) → is_complete q ≡ true
    → Reads bodies (in_proof (headed v 0)) xs (map proof_line (map cite names ++ lemma_lines ls)) q → 0 < length ls
some_lemma v xs names [] q c h = absurd (no_lemma xs v q 0 names c h)
some_lemma v xs names (l ∷ ls) q c h = omega arith

pub body_writable : (lines : List LineText) (b : FileBody) → IsBody lines b → IsWritableBody b
body_writable lines (proof p) h =
    let v = h.says.0 in
    let q = h.are_whole.come in
    let reads = subst (λ (z : List Line). Reads bodies opening lines z q) h.says.1 h.are_whole.reads in
    let all = proof_writable (proof_lines v p) (reads_writable opening q lines (map proof_line (proof_lines v p)) reads) in
    let behind = behind_heading lines v p.hypothesis p.goal (map cite p.cites ++ lemma_lines p.lemmas) q reads in
    let few : 0 + length p.cites ≤ cite_limit = few_cites behind.lines v 0 p.cites (lemma_lines p.lemmas) q (omega arith) behind.reads in (
      some_lemma v behind.lines p.cites p.lemmas q h.are_whole.complete behind.reads,
      omega arith,
      All-from_recursion IsWritableProofLine (proof_lines (version_for p) p) all,
    )
body_writable lines (model m claims) h =
    model_writable lines h.saids m claims h.are_whole.come h.are_whole.complete h.are_whole.reads
    (reads_writable opening h.are_whole.come lines h.saids h.are_whole.reads) h.says
