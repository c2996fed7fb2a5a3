-- Lists with one more item, and rules with one more rule.
use Rattle.std.proofs.Common.{◌≡◌, ℕ, zero, suc, ◌+◌, ◌<◌, ◌≤◌, ◌⊎◌, inl, inr, List, [], ◌∷◌, ◌++◌, length, take, Some, None, slice_get, refl, sym, ap, ap₂, ◌∙◌, subst, arith, add-one}
use Rattle.std.proofs.Math.Seq.{take-suc}
use Rattle.std.proofs.lemmas.Option.{same_Some, slice_get_within, get_or_from_slice_get}
use Rattle.std.proofs.lemmas.List.{map-append}
use Rattle.etp_theory.specs.Trees.{Tree, var, op, ops, bound, renamed, Equation}
use Rattle.etp_theory.specs.Overlaps.{HasSmallVariables}
use Rattle.etp_term.specs.declared.term.Term.{Term}
use Rattle.etp_rules.specs.Rules.{rule_of, rules_of}
use Rattle.etp_rules.specs.Systems.{rule_numbered}
use Rattle.etp_rules.specs.declared.rule.Rule.{Rule}

pub at_end : {A : Type 0} (xs : List A) (x : A) → slice_get (xs ++ x ∷ []) (length xs) ≡ Some x
at_end [] x = refl
at_end (y ∷ ys) x = at_end ys x

pub before_end : {A : Type 0} (xs : List A) (x : A) (i : ℕ) (e : A) → slice_get xs i ≡ Some e → slice_get (xs ++ x ∷ []) i ≡ Some e
before_end [] x i e h = absurd (let l : i < 0 = slice_get_within [] i e h in omega (arith, l))
before_end (y ∷ ys) x zero e h = h
before_end (y ∷ ys) x (suc i) e h = before_end ys x i e h

-- what stands in the longer list stood in the shorter one, or is the new item
pub which : {A : Type 0} (xs : List A) (x : A) (i : ℕ) (e : A) → slice_get (xs ++ x ∷ []) i ≡ Some e → (slice_get xs i ≡ Some e) ⊎ (x ≡ e)
which [] x zero e h = inr (same_Some x e h)
which [] x (suc i) e h = absurd (let l : suc i < 1 = slice_get_within (x ∷ []) (suc i) e h in omega (arith, l))
which (y ∷ ys) x zero e h = inl h
which (y ∷ ys) x (suc i) e h = which ys x i e h

pub small_more : (rules : List Equation) (rule : Equation) → HasSmallVariables rules → bound rule.left ≤ 64 → bound rule.right ≤ 64 → HasSmallVariables (rules ++ rule ∷ [])
small_more rules rule small l r i e h = go (which rules rule i e h)
  where
    go : (slice_get rules i ≡ Some e) ⊎ (rule ≡ e) → (bound e.left ≤ 64) × (bound e.right ≤ 64)
    go (inl k) = small i e k
    go (inr q) = subst (λ (x : Equation). (bound x.left ≤ 64) × (bound x.right ≤ 64)) q (l, r)

pub one_rule_more : (rules : List Rule) (rule : Rule) → rules_of (rules ++ rule ∷ []) ≡ rules_of rules ++ rule_of rule ∷ []
one_rule_more rules rule = map-append rule_of rules (rule ∷ [])

abbrev pub rule_with : Term → Term → Rule
rule_with l r = record { left = l; right = r }

-- the rules so far and the next one

numbered : (rules : List Rule) (n k : ℕ) → n ≡ k + 1 → rule_numbered rules n ≡ slice_get rules k
numbered rules zero k e = absurd (omega (arith, e))
numbered rules (suc n) k e = let same : n ≡ k = omega (arith, e) in ap (slice_get rules) same

pub one_more_taken : (rules : List Rule) (k : ℕ) (rule : Rule) → Some rule ≡ rule_numbered rules (k + 1) → take k rules ++ rule ∷ [] ≡ take (k + 1) rules
one_more_taken rules k rule e =
    let h : slice_get rules k ≡ Some rule = sym (e ∙ numbered rules (k + 1) k refl) in
    ap (λ y. take k rules ++ y ∷ []) (sym (get_or_from_slice_get rules k rule rule h))
    ∙ sym (take-suc rules k rule (slice_get_within rules k rule h))
    ∙ ap (λ n. take n rules) (sym (add-one k))

not_inside : (xs : List Rule) (i : ℕ) → i < length xs → None ≡ slice_get xs i → ⊥
not_inside [] i h q = omega (arith, h)
not_inside (x ∷ xs) zero h q = cc
not_inside (x ∷ xs) (suc i) h q = not_inside xs i (omega arith) q

pub none_inside : (rules : List Rule) (k : ℕ) → k < length rules → None ≡ rule_numbered rules (k + 1) → ⊥
none_inside rules k l e = not_inside rules k l (e ∙ numbered rules (k + 1) k refl)

pub ops_renamed : (f : ℕ → ℕ) (t : Tree) → ops (renamed f t) ≡ ops t
ops_renamed f (var v) = refl
ops_renamed f (op l r) = ap₂ (λ m n. m + n + 1) (ops_renamed f l) (ops_renamed f r)
