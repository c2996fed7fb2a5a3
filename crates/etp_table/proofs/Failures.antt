-- A law has one first failing assignment, and none where those that are looked at agree.
use Rattle.std.proofs.Common.{◌≡◌, ℕ, ◌<◌, ◌⊎◌, inl, inr, All, List, [], ◌∷◌, ◌++◌, length, get_or, drop, zero, suc, sym, ◌∙◌, ap, ap₂, subst, arith, refl, length-drop}
use Rattle.std.proofs.lemmas.Bool.{cases_order}
use Rattle.std.proofs.lemmas.List.{same_lists, take-append-drop}
use Rattle.std.proofs.lemmas.List.Elements.{All-get_or, All-replicate}
use Rattle.etp_theory.specs.Trees.{Equation}
use Rattle.etp_theory.specs.Magmas.{meaning}
use Rattle.etp_theory.specs.Tables.{IsAssignment, assigned, place_of}
use Rattle.etp_table.specs.Tables.{Table, times}
use Rattle.etp_table.specs.Points.{values_of, IsPadded}
use Rattle.etp_table.specs.Verdicts.{variables, limit, AgreesAt, AgreesBefore, IsFirstFailure}
use Rattle.etp_table.specs.Theorems.{left_projection, commutativity, second_point}
use Rattle.etp_table.specs.declared.point.Point.{Point}
use Rattle.etp_table.proofs.Places.{one_assignment}

pub agree_not : (t : Table) (e : Equation) (p : Point) (l r : ℕ) → IsFirstFailure t e p l r → AgreesAt t e (values_of p) → ⊥
agree_not t e p l r f a = f.differ (f.left_is ∙ a ∙ sym f.right_is)

pub agrees_or_fails : (t : Table) (e : Equation) (p : Point) (l r : ℕ) → AgreesBefore t e limit → IsFirstFailure t e p l r → ⊥
agrees_or_fails t e p l r a f = agree_not t e p l r f (a (values_of p) f.assignment f.among)

-- lists of zeros of one length are one
same_zeros : (xs ys : List ℕ) → length xs ≡ length ys → All (λ x. x ≡ 0) xs → All (λ x. x ≡ 0) ys → xs ≡ ys
same_zeros xs ys long h k =
    same_lists xs ys long (λ i d l. All-get_or (λ x. x ≡ 0) xs i d l h ∙ sym (All-get_or (λ x. x ≡ 0) ys i d (omega arith) k))

-- points of one assignment are one
one_point : (p q : Point) → IsPadded p → IsPadded q → p.variables ≡ q.variables → values_of p ≡ values_of q → p ≡ q
one_point p q f g count same =
    let at : drop q.variables p.values ≡ drop p.variables p.values = ap (λ n. drop n p.values) (sym count) in
    let zeros : All (λ x. x ≡ 0) (drop q.variables p.values) = subst (All (λ x. x ≡ 0)) (sym at) f.rest in
    let long : length (drop q.variables p.values) ≡ length (drop q.variables q.values) =
    let w = f.width in let v = g.width in omega (arith, length-drop q.variables p.values, length-drop q.variables q.values) in
    let rest : drop p.variables p.values ≡ drop q.variables q.values =
    sym at ∙ same_zeros (drop q.variables p.values) (drop q.variables q.values) long zeros g.rest in
    let values : p.values ≡ q.values =
    sym (take-append-drop p.variables p.values) ∙ ap₂ (λ xs ys. xs ++ ys) same rest ∙ take-append-drop q.variables q.values in
    ap₂ (λ xs n. record { values = xs; variables = n }) values count

pub one_failure : (t : Table) (e : Equation) (p q : Point) (l r l' r' : ℕ) → IsFirstFailure t e p l r → IsFirstFailure t e q l' r' → (p ≡ q) × (l ≡ l') × (r ≡ r')
one_failure t e p q l r l' r' f g = one (cases_order (place_of t.size (values_of p)) (place_of t.size (values_of q)))
  where
    one : (place_of t.size (values_of p) ≡ place_of t.size (values_of q)) ⊎ ((place_of t.size (values_of p) < place_of t.size (values_of q)) ⊎ (place_of t.size (values_of q) < place_of t.size (values_of p))) → (p ≡ q) × (l ≡ l') × (r ≡ r')
    one (inl s) =
        let same : values_of p ≡ values_of q = one_assignment (variables e) t.size (values_of p) (values_of q) f.assignment g.assignment s in (
          one_point p q f.padded g.padded (f.variables_are ∙ sym g.variables_are) same,
          f.left_is ∙ ap (λ xs. meaning (times t) (assigned xs) e.left) same ∙ sym g.left_is,
          f.right_is ∙ ap (λ xs. meaning (times t) (assigned xs) e.right) same ∙ sym g.right_is,
        )
    one (inr (inl s)) = absurd (agree_not t e p l r f (g.before (values_of p) f.assignment s))
    one (inr (inr s)) = absurd (agree_not t e q l' r' g (f.before (values_of q) g.assignment s))

-- the example

no_values : IsAssignment 2 2 (0 ∷ 0 ∷ [])
no_values = record { count = refl; each = at }
  where
    at : (i : ℕ) → i < 2 → get_or (0 ∷ 0 ∷ []) i 0 < 2
    at zero h = omega arith
    at (suc zero) h = omega arith
    at (suc (suc i)) h = absurd (omega arith)

second_values : IsAssignment 2 2 (0 ∷ 1 ∷ [])
second_values = record { count = refl; each = at }
  where
    at : (i : ℕ) → i < 2 → get_or (0 ∷ 1 ∷ []) i 0 < 2
    at zero h = omega arith
    at (suc zero) h = omega arith
    at (suc (suc i)) h = absurd (omega arith)

pub first_of_two : IsFirstFailure left_projection commutativity second_point 0 1
first_of_two = record {
  variables_are = refl;
  padded = record { width = refl; rest = All-replicate (λ x. x ≡ 0) 6 0 refl };
  assignment = second_values;
  among = omega arith;
  before = λ xs a h. subst (AgreesAt left_projection commutativity) (one_assignment 2 2 (0 ∷ 0 ∷ []) xs no_values a (omega (arith, h))) refl;
  left_is = refl;
  right_is = refl;
  differ = λ e. absurd (omega (arith, e));
}
