-- What spells a side or a law is read as it: the grammar's texts are runs.
use Rattle.std.proofs.Common.{◌≡◌, ◌⊎◌, inl, inr, Option, Some, None, option_and_then, List, [], ◌∷◌, ◌++◌, refl, sym, ap, ◌∙◌, append_assoc, append-nil}
use Rattle.std.proofs.lemmas.Option.{none-some}
use Rattle.std.specs.Prelude.{map}
use Rattle.std.specs.Option.{option_map}
use Rattle.etp_theory.specs.Trees.{Tree, op, Equation}
use Rattle.etp_term.specs.Terms.{tree_of}
use Rattle.etp_term.specs.declared.term.Term.{Term}
use Rattle.etp_text.specs.Grammar.{IsAtom, IsSide, IsEquation, variable, enclosed, alone, joined}
use Rattle.etp_text.specs.Machine.{Stand, wanted, atom, pair, State, start, placed, divided, step, run, text_of}
use Rattle.etp_text.specs.declared.reading.Grammar.{Grammar}
use Rattle.etp_text.specs.declared.reading.Grammar.TheVariants.{Terms, Laws}
use Rattle.etp_text.specs.declared.token.Token.{Token}
use Rattle.etp_text.specs.declared.token.Token.TheVariants.{Opening, Closing, Equals, Operator, Unknown}

abbrev pub at : Option Tree → List (Option Tree) → Stand → State
at left parts stand = record { left = left; open_parts = parts; stand = stand }

-- only the left side of a law, outside all parentheses, has = behind it
pub not_divided : (grammar : Grammar) (left : Option Term) (parts : List (Option Term)) (t : Tree) → (grammar ≡ Laws → left ≡ None → parts ≡ [] → ⊥)
    → divided grammar (option_map tree_of left) (map (option_map tree_of) parts) t ≡ None
not_divided Terms left parts t h = refl
not_divided Laws (Some l) parts t h = refl
not_divided Laws None [] t h = absurd (h refl refl refl)
not_divided Laws None (p ∷ ps) t h = refl

pub run_append : (grammar : Grammar) (state : State) (ts us : List Token) → run grammar state (ts ++ us) ≡ option_and_then (λ next. run grammar next us) (run grammar state ts)
run_append grammar state [] us = refl
run_append grammar state (t ∷ ts) us = go (step grammar state t) (λ next. run_append grammar next ts us)
  where
    go : (o : Option State) → ((next : State) → run grammar next (ts ++ us) ≡ option_and_then (λ n. run grammar n us) (run grammar next ts))
        → option_and_then (λ n. run grammar n (ts ++ us)) o ≡ option_and_then (λ n. run grammar n us) (option_and_then (λ n. run grammar n ts) o)
    go None h = refl
    go (Some next) h = h next

-- a whole side stands
abbrev pub IsStand : Stand → Tree → Type 0
IsStand stand t = (stand ≡ atom t) ⊎ (stand ≡ pair t)

-- the run over a side, whatever comes behind it
abbrev pub RunsSide : List Token → Tree → Type 0
RunsSide ts t = (grammar : Grammar) (left : Option Tree) (parts : List (Option Tree)) (more : List Token)
    → (stand : Stand) × IsStand stand t × (run grammar (at left parts (wanted None)) (ts ++ more) ≡ run grammar (at left parts stand) more)

abbrev pub RunsAtom : List Token → Tree → Type 0
RunsAtom ts t = (grammar : Grammar) (left : Option Tree) (parts : List (Option Tree)) (part : Option Tree) (more : List Token)
    → run grammar (at left parts (wanted part)) (ts ++ more) ≡ run grammar (at left parts (placed part t)) more

closing_run : (ts : List Token) (t : Tree) → RunsSide ts t → RunsAtom (Opening ∷ (ts ++ Closing ∷ [])) t
closing_run ts t h grammar left parts part more =
    let i = h grammar left (part ∷ parts) (Closing ∷ more) in
    ap (run grammar (at left (part ∷ parts) (wanted None))) (append_assoc ts (Closing ∷ []) more) ∙ (i.2 ∙ closes i.0 i.1)
  where
    closes : (stand : Stand) → IsStand stand t → run grammar (at left (part ∷ parts) stand) (Closing ∷ more) ≡ run grammar (at left parts (placed part t)) more
    closes stand (inl e) = ap (λ s. run grammar (at left (part ∷ parts) s) (Closing ∷ more)) e
    closes stand (inr e) = ap (λ s. run grammar (at left (part ∷ parts) s) (Closing ∷ more)) e

joined_run : (ls : List Token) (l : Tree) (rs : List Token) (r : Tree) → RunsAtom ls l → RunsAtom rs r → RunsSide (ls ++ Operator ∷ rs) (op l r)
joined_run ls l rs r h k grammar left parts more = (
  pair (op l r),
  inr refl,
  ap (run grammar (at left parts (wanted None))) (append_assoc ls (Operator ∷ rs) more)
      ∙ (h grammar left parts None (Operator ∷ (rs ++ more)) ∙ k grammar left parts (Some l) more),
)

mutual
  atom_run : (ts : List Token) (t : Tree) → IsAtom ts t → RunsAtom ts t
  atom_run _ _ (variable v) = λ grammar left parts part more. refl
  atom_run _ _ (enclosed ts t s) = closing_run ts t (side_run ts t s)

  pub side_run : (ts : List Token) (t : Tree) → IsSide ts t → RunsSide ts t
  side_run _ _ (alone ts t a) = λ grammar left parts more. (atom t, inl refl, atom_run ts t a grammar left parts None more)
  side_run _ _ (joined ls l rs r a b) = joined_run ls l rs r (atom_run ls l a) (atom_run rs r b)

-- a text of terms ends with the side alone
pub term_run : (ts : List Token) (t : Tree) → IsSide ts t → (stand : Stand) × IsStand stand t × (run Terms start ts ≡ Some (at None [] stand))
term_run ts t s =
    let i = side_run ts t s Terms None [] [] in
    (i.0, i.1, ap (run Terms start) (sym (append-nil ts)) ∙ i.2)

-- a text of laws ends with the left side put aside, and the right one
pub law_run : (ts : List Token) (law : Equation) → IsEquation ts law → (stand : Stand) × IsStand stand law.right × (run Laws start ts ≡ Some (at (Some law.left) [] stand))
law_run ts law (ls, rs, e, l, r) =
    let i = side_run ls law.left l Laws None [] (Equals ∷ rs) in
    let j = side_run rs law.right r Laws (Some law.left) [] [] in
    (j.0, j.1, ap (run Laws start) e ∙ (i.2 ∙ (divides i.0 i.1 ∙ (ap (run Laws (at (Some law.left) [] (wanted None))) (sym (append-nil rs)) ∙ j.2))))
  where
    divides : (stand : Stand) → IsStand stand law.left → run Laws (at None [] stand) (Equals ∷ rs) ≡ run Laws (at (Some law.left) [] (wanted None)) rs
    divides stand (inl k) = ap (λ s. run Laws (at None [] s) (Equals ∷ rs)) k
    divides stand (inr k) = ap (λ s. run Laws (at None [] s) (Equals ∷ rs)) k

-- no text of the grammar stops the run
pub text_run : (grammar : Grammar) (ts : List Token) → text_of grammar ts → (state : State) × (run grammar start ts ≡ Some state)
text_run Laws ts (law, h) = let i = law_run ts law h in (at (Some law.left) [] i.0, i.2)
text_run Terms ts (t, h) = let i = term_run ts t h in (at None [] i.0, i.2)

-- what the run refuses, no text of the grammar goes on with
pub unviable : (grammar : Grammar) (ts : List Token) (state : State) (t : Token) → run grammar start ts ≡ Some state → step grammar state t ≡ None → (more : List Token) → text_of grammar ((ts ++ t ∷ []) ++ more) → ⊥
unviable grammar ts state t h k more whole =
    let i = text_run grammar ((ts ++ t ∷ []) ++ more) whole in
    let e : run grammar start (ts ++ t ∷ []) ≡ None = run_append grammar start ts (t ∷ []) ∙ (ap (option_and_then (λ n. run grammar n (t ∷ []))) h ∙ ap (option_and_then (λ n. run grammar n [])) k) in
    none-some i.0 (sym (ap (option_and_then (λ n. run grammar n more)) e) ∙ (sym (run_append grammar start (ts ++ t ∷ []) more) ∙ i.1))

pub step_unknown : (grammar : Grammar) (state : State) → step grammar state Unknown ≡ None
step_unknown grammar state = go state.left state.open_parts state.stand
  where
    go : (left : Option Tree) (parts : List (Option Tree)) (stand : Stand) → step grammar (at left parts stand) Unknown ≡ None
    go left parts (wanted part) = refl
    go left parts (atom t) = refl
    go left parts (pair t) = refl
