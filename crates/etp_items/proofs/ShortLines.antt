-- The lines of a valid proof are written in at most 4096 bytes.
use Rattle.std.proofs.Common.{◌≡◌, ℕ, ◌+◌, ◌<◌, ◌≤◌, ◌^◌, arith, Bool, true, false, cond, List, [], ◌∷◌, ◌++◌, length, map, codes, decimal, Some, None, length-append}
use Rattle.std.specs.List.{AllByRecursion}
use Rattle.std.proofs.lemmas.Fmt.{length-decimal-le}
use Rattle.std.proofs.lemmas.List.Elements.{recursion_from_All, All-from_recursion}
use Rattle.etp_theory.specs.Trees.{Tree, var, op, Equation, bound, leaves}
use Rattle.etp_theory.specs.Positions.{Side, to_left, to_right, sub_at}
use Rattle.etp_theory.specs.Proofs.{ProofStep, Lemma, conclusion, AreRightSteps, AreRightLemmas, IsValidProof}
use Rattle.etp_text.specs.Written.{written_term}
use Rattle.etp_text.specs.Refusals.{side_limit}
use Rattle.etp_text.proofs.Lengths.{written_term_short}
use Rattle.etp_proof.specs.Names.{IsName}
use Rattle.etp_items.specs.Bodies.{ProofBody, proof}
use Rattle.etp_lines.specs.ProofLines.{Version, plain, citing, version_word, ProofLine, heading, cite, lemma, step}
use Rattle.etp_items.specs.Reading.{lemma_lines, proof_lines}
use Rattle.etp_items.specs.Written.{reference_word, direction_word, side_letter, position_word, version_for, IsWritableProofLine, IsShortProofLine, IsWritableBody, IsShortBody}

some_leaves : (t : Tree) → 0 < leaves t
some_leaves (var v) = omega arith
some_leaves (op l r) = let a = some_leaves l in omega arith

none_some : {A : Type 0} (a : A) → None ≡ Some a → ⊥
none_some a e = cc

-- a position that is in a term has fewer letters than the term has leaves
position_within : (p : List Side) (t u : Tree) → sub_at p t ≡ Some u → length p < leaves t
position_within [] t u e = some_leaves t
position_within (to_left ∷ p) (var v) u e = absurd (none_some u e)
position_within (to_left ∷ p) (op l r) u e = let k = position_within p l u e in let s = some_leaves r in omega arith
position_within (to_right ∷ p) (var v) u e = absurd (none_some u e)
position_within (to_right ∷ p) (op l r) u e = let k = position_within p r u e in let s = some_leaves l in omega arith

number_length : (n : ℕ) → n < 2 ^ 32 → length (decimal n) ≤ 10
number_length n h = length-decimal-le 10 n (omega arith) (omega (arith, h)) (omega (arith, h))

version_length : (v : Version) → length (version_word v) ≤ 6
version_length plain = omega arith
version_length citing = omega arith

reference_length : (x : ProofStep) → x.line < 2 ^ 32 → length (reference_word x) ≤ 11
reference_length x h = chosen x.cited
  where
    chosen : (cited : Bool) → length (cond cited (codes "c" ++ decimal x.line) (decimal x.line)) ≤ 11
    chosen true = omega (arith, number_length x.line h)
    chosen false = omega (arith, number_length x.line h)

direction_length : (reversed : Bool) → length (direction_word reversed) ≡ 1
direction_length true = omega arith
direction_length false = omega arith

letters_length : (sides : List Side) → length (map side_letter sides) ≡ length sides
letters_length [] = omega arith
letters_length (side ∷ sides) = omega (arith, letters_length sides)

position_length : (sides : List Side) → length (position_word sides) ≤ length sides + 1
position_length [] = omega arith
position_length (side ∷ sides) = omega (arith, letters_length sides)

-- words with a space between two
spaced_length : (v w : List ℕ) → length (v ++ 32 ∷ w) ≡ length v + length w + 1
spaced_length v w = omega (arith, length-append v (32 ∷ w))

heading_short : (v : Version) (e f : ℕ) → e < 2 ^ 32 → f < 2 ^ 32 → IsShortProofLine (heading v e f)
heading_short v e f h k =
    omega (
      arith,
      version_length v,
      number_length e h,
      number_length f k,
      spaced_length (version_word v) (decimal e ++ 32 ∷ decimal f),
      spaced_length (decimal e) (decimal f),
    )

cite_short : (name : List ℕ) → IsName name → IsShortProofLine (cite name)
cite_short name h = omega (arith, h.short)

lemma_short : (t : Tree) → bound t ≤ 64 → leaves t ≤ side_limit → IsShortProofLine (lemma t)
lemma_short t named few = omega (arith, written_term_short t named)

step_short : (x : ProofStep) → x.line < 2 ^ 32 → bound x.to ≤ 64 → leaves x.to ≤ side_limit → length x.position < leaves x.to → IsShortProofLine (step x)
step_short x line named few within =
    let r = reference_word x in
    let d = direction_word x.reversed in
    let p = position_word x.position in
    let t = written_term x.to in
    omega (
      arith,
      reference_length x line,
      direction_length x.reversed,
      position_length x.position,
      written_term_short x.to named,
      spaced_length r (d ++ 32 ∷ (p ++ 32 ∷ t)),
      spaced_length d (p ++ 32 ∷ t),
      spaced_length p t,
    )

-- the steps of a valid proof, and what follows them
steps_short : (hypothesis : Equation) (cites earlier : List Equation) (s : Tree) (xs : List ProofStep) (ls : List ProofLine)
    → AreRightSteps hypothesis cites earlier s xs → AllByRecursion IsWritableProofLine (map step xs ++ ls)
    → (AllByRecursion IsWritableProofLine ls → AllByRecursion IsShortProofLine ls) → AllByRecursion IsShortProofLine (map step xs ++ ls)
steps_short hypothesis cites earlier s [] ls right h on = on h
steps_short hypothesis cites earlier s (x ∷ xs) ls right h on = (
  step_short x h.0.0 h.0.1 h.0.2 (position_within x.position x.to _ right.0.right.after),
  steps_short hypothesis cites earlier x.to xs ls right.1 h.1 on,
)

lemmas_short : (hypothesis : Equation) (cites earlier : List Equation) (ls : List Lemma)
    → AreRightLemmas hypothesis cites earlier ls → AllByRecursion IsWritableProofLine (lemma_lines ls) → AllByRecursion IsShortProofLine (lemma_lines ls)
lemmas_short hypothesis cites earlier [] right h = tt
lemmas_short hypothesis cites earlier (l ∷ ls) right h = (
  lemma_short l.start h.0.0 h.0.1,
  steps_short hypothesis cites earlier l.start l.steps (lemma_lines ls) right.0 h.1
      (λ k. lemmas_short hypothesis cites (earlier ++ (conclusion l ∷ [])) ls right.1 k),
)

cites_short : (names : List (List ℕ)) (ls : List ProofLine) → AllByRecursion IsWritableProofLine (map cite names ++ ls)
    → (AllByRecursion IsWritableProofLine ls → AllByRecursion IsShortProofLine ls) → AllByRecursion IsShortProofLine (map cite names ++ ls)
cites_short [] ls h on = on h
cites_short (name ∷ names) ls h on = (cite_short name h.0, cites_short names ls h.1 on)

pub valid_body_short : (hypothesis goal : Equation) (cites : List Equation) (p : ProofBody)
    → IsValidProof hypothesis goal cites p.lemmas → IsWritableBody (proof p) → IsShortBody (proof p)
valid_body_short hypothesis goal cites p valid (some, few, writable) =
    let v = version_for p in
    let all : AllByRecursion IsWritableProofLine (proof_lines v p) = recursion_from_All IsWritableProofLine (proof_lines v p) writable in
    All-from_recursion IsShortProofLine (proof_lines v p) (
      heading_short v p.hypothesis p.goal all.0.0 all.0.1,
      cites_short p.cites (lemma_lines p.lemmas) all.1 (λ k. lemmas_short hypothesis cites [] p.lemmas valid.right k),
    )
