-- Values of the program are told by the rules that they stand for.
use Rattle.std.proofs.Common.{◌≡◌, List, [], ◌∷◌, refl, ap, ap₂}
use Rattle.etp_theory.specs.Trees.{Equation}
use Rattle.etp_rules.specs.Rules.{rule_of, rules_of}
use Rattle.etp_rules.specs.declared.rule.Rule.{Rule}
use Rattle.etp_pairs.proofs.Terms.{one_term}

one_rule : (r s : Rule) → rule_of r ≡ rule_of s → r ≡ s
one_rule r s e =
    let lefts : r.left ≡ s.left = one_term r.left s.left (ap (λ (x : Equation). x.left) e) in
    let rights : r.right ≡ s.right = one_term r.right s.right (ap (λ (x : Equation). x.right) e) in
    λ i. record { left = lefts i; right = rights i }

pub one_list : (xs ys : List Rule) → rules_of xs ≡ rules_of ys → xs ≡ ys
one_list [] [] e = refl
one_list [] (y ∷ ys) e = absurd (cc)
one_list (x ∷ xs) [] e = absurd (cc)
one_list (x ∷ xs) (y ∷ ys) e =
    let first : rule_of x ≡ rule_of y = cc in
    let rest : rules_of xs ≡ rules_of ys = cc in
    ap₂ (λ a b. a ∷ b) (one_rule x y first) (one_list xs ys rest)
