-- A value of the program is told by the term, or the position, that it stands for.
use Rattle.std.proofs.Common.{◌≡◌, List, [], ◌∷◌, refl, sym, ap, ap₂, ◌∙◌, subst}
use Rattle.etp_theory.specs.Trees.{Tree, var, op}
use Rattle.etp_term.specs.Terms.{tree_of, tree_step}
use Rattle.etp_term.specs.Positions.{side_of, position_of}
use Rattle.etp_term.specs.declared.term.Term.{Term}
use Rattle.etp_term.specs.declared.term.Term.TheOpen.{Term-F, Var, Op}
use Rattle.etp_term.specs.declared.term.Term.TheViews.{roll-Term}
use Rattle.etp_term.specs.declared.term.Term.TheFolds.{map-Term, fold-roll-Term, ind-Term}
use Rattle.etp_term.specs.declared.position.Side.{Side}
use Rattle.etp_term.specs.declared.position.Side.TheVariants.{L, R}

-- the value that stands for a term
abbrev pub term_of : Tree → Term
term_of (var v) = roll-Term (Var v)
term_of (op l r) = roll-Term (Op (term_of l) (term_of r))

pub stands_for : (t : Tree) → tree_of (term_of t) ≡ t
stands_for (var v) = fold-roll-Term Tree tree_step (Var v)
stands_for (op l r) = fold-roll-Term Tree tree_step (Op (term_of l) (term_of r)) ∙ ap₂ op (stands_for l) (stands_for r)

abbrev IsItself : Term → Type 0
IsItself t = term_of (tree_of t) ≡ t

-- y is x with a proof beside each part
of_parts : (x : Term-F Term) (y : Term-F ((t : Term) × IsItself t)) → map-Term ((t : Term) × IsItself t) Term (λ e. e.0) y ≡ x → IsItself (roll-Term x)
of_parts x (Var v) is = subst (λ z. IsItself (roll-Term z)) is (ap term_of (fold-roll-Term Tree tree_step (Var v)))
of_parts x (Op l r) is =
    subst (λ z. IsItself (roll-Term z)) is
    (ap term_of (fold-roll-Term Tree tree_step (Op l.0 r.0)) ∙ ap₂ (λ a b. roll-Term (Op a b)) l.1 r.1)

pub itself : (t : Term) → IsItself t
itself = ind-Term IsItself of_parts

pub one_term : (s t : Term) → tree_of s ≡ tree_of t → s ≡ t
one_term s t e = sym (itself s) ∙ ap term_of e ∙ itself t

one_side : (d e : Side) → side_of d ≡ side_of e → d ≡ e
one_side L L h = refl
one_side L R h = absurd (cc)
one_side R L h = absurd (cc)
one_side R R h = refl

pub one_position : (p q : List Side) → position_of p ≡ position_of q → p ≡ q
one_position [] [] h = refl
one_position [] (e ∷ q) h = absurd (cc)
one_position (d ∷ p) [] h = absurd (cc)
one_position (d ∷ p) (e ∷ q) h =
    let i : side_of d ≡ side_of e = cc in
    let k : position_of p ≡ position_of q = cc in
    ap₂ (λ x y. x ∷ y) (one_side d e i) (one_position p q k)
