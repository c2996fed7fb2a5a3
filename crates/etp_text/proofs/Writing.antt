-- What is written spells what it was written of.
use Rattle.std.proofs.Common.{◌≡◌, ℕ, ◌<◌, ◌≤◌, inr, List, [], ◌∷◌, ◌++◌, codes, refl, sym, subst, arith, append_assoc, append-nil}
use Rattle.etp_theory.specs.Trees.{Tree, var, op, Equation, bound}
use Rattle.etp_text.specs.Written.{sign, variable_name, written_part, written_term, written_law}
use Rattle.etp_text.specs.Grammar.{AreBlanks, IsIdentifierOver, Begins, IsAtom, IsSide, variable, enclosed, alone, joined, SpellsTerm, SpellsLaw}
use Rattle.etp_text.specs.declared.token.Token.{Token}
use Rattle.etp_text.specs.declared.token.Token.TheVariants.{Opening, Closing, Equals, Operator, Variable}
use Rattle.etp_text.proofs.Lexing.{begins_append}

abbrev pub part_tokens : Tree → List Token
part_tokens (var v) = Variable v ∷ []
part_tokens (op l r) = Opening ∷ ((part_tokens l ++ Operator ∷ part_tokens r) ++ Closing ∷ [])

abbrev pub term_tokens : Tree → List Token
term_tokens (var v) = Variable v ∷ []
term_tokens (op l r) = part_tokens l ++ Operator ∷ part_tokens r

part_atom : (t : Tree) → IsAtom (part_tokens t) t
part_atom (var v) = variable v
part_atom (op l r) = enclosed (part_tokens l ++ Operator ∷ part_tokens r) (op l r) (joined (part_tokens l) l (part_tokens r) r (part_atom l) (part_atom r))

term_side : (t : Tree) → IsSide (term_tokens t) t
term_side (var v) = alone (Variable v ∷ []) (var v) (variable v)
term_side (op l r) = joined (part_tokens l) l (part_tokens r) r (part_atom l) (part_atom r)

-- the bytes of a tree begin with its tokens, whatever blanks stand before and whatever but a name's byte behind
abbrev pub Spelt : (Tree → List ℕ) → (Tree → List Token) → Tree → Type 0
Spelt written tokens t = (blanks rest : List ℕ) → AreBlanks blanks → IsIdentifierOver rest → Begins (blanks ++ (written t ++ rest)) (tokens t) rest

variable_spelt : (v : ℕ) → v < 64 → (blanks rest : List ℕ) → AreBlanks blanks → IsIdentifierOver rest → Begins (blanks ++ (variable_name v ++ rest)) (Variable v ∷ []) rest
variable_spelt v few blanks rest a n =
    (blanks, variable_name v ++ rest, rest, a, refl, record { word = variable_name v; is_token = (few, refl); ends = n; whole = refl }, refl)

pair_spelt : (l r : Tree) → Spelt written_part part_tokens l → Spelt written_part part_tokens r
    → (blanks rest : List ℕ) → AreBlanks blanks → IsIdentifierOver rest
    → Begins (blanks ++ (written_part l ++ (sign ++ (written_part r ++ rest)))) (part_tokens l ++ Operator ∷ part_tokens r) rest
pair_spelt l r h k blanks rest a n =
    let more : List ℕ = written_part r ++ rest in
    begins_append (blanks ++ (written_part l ++ (sign ++ more))) (part_tokens l) (Operator ∷ part_tokens r) (sign ++ more) rest (h blanks (sign ++ more) a refl) (
      32 ∷ [],
      226 ∷ 151 ∷ 135 ∷ 32 ∷ more,
      32 ∷ more,
      (refl, tt),
      refl,
      record { word = 226 ∷ 151 ∷ 135 ∷ []; is_token = inr refl; ends = tt; whole = refl },
      k (32 ∷ []) rest (refl, tt) n,
    )

regrouped_part : (l s r rest : List ℕ) → ((((codes "(" ++ l) ++ s) ++ r) ++ codes ")") ++ rest ≡ 40 ∷ (l ++ (s ++ (r ++ 41 ∷ rest)))
regrouped_part l s r rest = simp append_assoc

regrouped_term : (l s r rest : List ℕ) → ((l ++ s) ++ r) ++ rest ≡ l ++ (s ++ (r ++ rest))
regrouped_term l s r rest = simp append_assoc

enclosed_spelt : (l r : Tree) → Spelt written_part part_tokens l → Spelt written_part part_tokens r → Spelt written_part part_tokens (op l r)
enclosed_spelt l r h k blanks rest a n =
    let inside : List ℕ = written_part l ++ (sign ++ (written_part r ++ 41 ∷ rest)) in
    let e = regrouped_part (written_part l) sign (written_part r) rest in (
      blanks,
      written_part (op l r) ++ rest,
      inside,
      a,
      refl,
      record { word = 40 ∷ []; is_token = refl; ends = tt; whole = e },
      begins_append inside (part_tokens l ++ Operator ∷ part_tokens r) (Closing ∷ []) (41 ∷ rest) rest (pair_spelt l r h k [] (41 ∷ rest) tt refl)
          ([], 41 ∷ rest, rest, tt, refl, record { word = 41 ∷ []; is_token = refl; ends = tt; whole = refl }, refl),
    )

part_spelt : (t : Tree) → bound t ≤ 64 → Spelt written_part part_tokens t
part_spelt (var v) h = λ blanks rest a n. variable_spelt v (omega arith) blanks rest a n
part_spelt (op l r) h = enclosed_spelt l r (part_spelt l (omega arith)) (part_spelt r (omega arith))

term_spelt : (t : Tree) → bound t ≤ 64 → Spelt written_term term_tokens t
term_spelt (var v) h blanks rest a n = variable_spelt v (omega arith) blanks rest a n
term_spelt (op l r) h blanks rest a n =
    subst (λ x. Begins (blanks ++ x) (part_tokens l ++ Operator ∷ part_tokens r) rest) (sym (regrouped_term (written_part l) sign (written_part r) rest))
    (pair_spelt l r (part_spelt l (omega arith)) (part_spelt r (omega arith)) blanks rest a n)

pub written_term_spells : (t : Tree) → bound t ≤ 64 → SpellsTerm (written_term t) t
written_term_spells t h =
    (term_tokens t, ([], subst (λ x. Begins x (term_tokens t) []) (append-nil (written_term t)) (term_spelt t h [] [] tt tt), tt), term_side t)

pub written_law_spells : (law : Equation) → bound law.left ≤ 64 → bound law.right ≤ 64 → SpellsLaw (written_law law) law
written_law_spells law h k =
    let l : List ℕ = written_term law.left in
    let r : List ℕ = written_term law.right in
    let e : written_law law ≡ l ++ (32 ∷ 61 ∷ 32 ∷ r) = append_assoc l (codes " = ") r in
    let b : Begins (l ++ (32 ∷ 61 ∷ 32 ∷ r)) (term_tokens law.left) (32 ∷ 61 ∷ 32 ∷ r) = term_spelt law.left h [] (32 ∷ 61 ∷ 32 ∷ r) tt refl in
    let c : Begins (32 ∷ r) (term_tokens law.right) [] = subst (λ x. Begins (32 ∷ x) (term_tokens law.right) []) (append-nil r) (term_spelt law.right k (32 ∷ []) [] (refl, tt) tt) in
    let d : Begins (32 ∷ 61 ∷ 32 ∷ r) (Equals ∷ term_tokens law.right) [] =
    (32 ∷ [], 61 ∷ 32 ∷ r, 32 ∷ r, (refl, tt), refl, record { word = 61 ∷ []; is_token = refl; ends = tt; whole = refl }, c) in
    let all = begins_append (l ++ (32 ∷ 61 ∷ 32 ∷ r)) (term_tokens law.left) (Equals ∷ term_tokens law.right) (32 ∷ 61 ∷ 32 ∷ r) [] b d in (
      term_tokens law.left ++ Equals ∷ term_tokens law.right,
      ([], subst (λ x. Begins x (term_tokens law.left ++ Equals ∷ term_tokens law.right) []) (sym e) all, tt),
      (term_tokens law.left, term_tokens law.right, refl, term_side law.left, term_side law.right),
    )
