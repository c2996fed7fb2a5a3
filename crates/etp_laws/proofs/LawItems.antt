-- The program's laws and the numbers of their duals.
use Rattle.std.proofs.Common.{◌≡◌, ℕ, ◌+◌, ◌<◌, ◌≤◌, ◌++◌, List, [], ◌∷◌, length, map, take, get_or, All, refl, sym, ◌∙◌, ap, subst, suc, arith}
use Rattle.std.proofs.lemmas.List.{length-map, map-append}
use Rattle.std.proofs.Math.ListN.{get_or-map}
use Rattle.std.proofs.Math.Seq.{take-suc}
use Rattle.etp_theory.specs.Trees.{Equation, law_ops, law_dual}
use Rattle.etp_term.specs.Laws.{equation_of}
use Rattle.etp_term.specs.declared.law.Law.{Law}
use Rattle.etp_laws.specs.Enumeration.{laws_upto}
use Rattle.etp_laws.specs.Places.{number_of, dual_numbers}
use Rattle.etp_laws.proofs.TheList.{laws_upto_is}

pub dual_numbers-none : dual_numbers [] ≡ []
unfolding dual_numbers
dual_numbers-none = refl

pub dual_numbers-more : (ls : List Law) (i : ℕ) (law : Law) → i < length ls → law ≡ get_or ls i law → dual_numbers (map equation_of (take (i + 1) ls)) ≡ dual_numbers (map equation_of (take i ls)) ++ number_of (law_dual (equation_of law)) ∷ []
unfolding dual_numbers
dual_numbers-more ls i law h e =
    let next : take (i + 1) ls ≡ take i ls ++ law ∷ [] = (let k : i + 1 ≡ suc i = omega arith in ap (λ n. take n ls) k) ∙ take-suc ls i law h ∙ ap (λ x. take i ls ++ x ∷ []) (sym e) in
    ap (λ xs. map (λ q. number_of (law_dual q)) (map equation_of xs)) next
    ∙ ap (map (λ q. number_of (law_dual q))) (map-append equation_of (take i ls) (law ∷ []))
    ∙ map-append (λ q. number_of (law_dual q)) (map equation_of (take i ls)) (equation_of law ∷ [])

pub small_law : (ls : List Law) (i : ℕ) (law : Law) → All (λ e. law_ops e ≤ 5) (map equation_of ls) → i < length ls → law ≡ get_or ls i law → law_ops (equation_of law) ≤ 5
small_law ls i law all h e =
    let lt : i < length (map equation_of ls) = omega (arith, length-map ls equation_of) in
    subst (λ q. law_ops q ≤ 5) (get_or-map equation_of ls i law ∙ ap equation_of (sym e)) (all i (equation_of law) lt)

pub small_laws : (k : ℕ) (es : List Equation) → k ≤ 5 → es ≡ laws_upto k → All (λ e. law_ops e ≤ 5) es
small_laws k es h e i d lt =
    let small = (laws_upto_is k).small i d (subst (λ xs. i < length xs) e lt) in
    let same : law_ops (get_or es i d) ≡ law_ops (get_or (laws_upto k) i d) = ap (λ xs. law_ops (get_or xs i d)) e in
    omega arith
