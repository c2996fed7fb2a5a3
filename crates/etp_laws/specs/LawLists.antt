-- What contracts see of `Laws`, and what they say of numbers.
use Rattle.std.specs.Prelude.{◌≡◌, ◌≢◌, ◌⊎◌, ◌↔◌, ℕ, ◌<◌, ◌≤◌, List, length, Contains, Some, refl}
use Rattle.std.specs.Coded.{Coded, code_by, coded×, coded_ℕ, coded_list}
use Rattle.etp_theory.specs.Trees.{var, Equation, law_word, law_dual}
use Rattle.etp_theory.specs.LawNumbers.{law_numbered, dual_number}
use Rattle.etp_theory.specs.Sameness.{Same}
use Rattle.etp_laws.specs.Coding.{coded_equation}

-- the greatest number of operations, the listed laws of at most that many, and the numbers of their duals
pub record LawList : Type 0 where
  pub order : ℕ
  pub equations : List Equation
  pub duals : List ℕ

abbrev pub coded_law_list : Coded LawList
coded_law_list =
    code_by (ℕ × (List Equation × List ℕ)) (coded× coded_ℕ (coded× (coded_list coded_equation) (coded_list coded_ℕ)))
    (λ l. (l.order, (l.equations, l.duals)))
    (λ p. record { order = p.0; equations = p.1.0; duals = p.1.1 }) (λ _. refl)

-- the law has m variables, which are 0 to m - 1
abbrev pub HasVariables : Equation → ℕ → Type 0
HasVariables law m = (v : ℕ) → Contains (law_word law) v ↔ v < m

-- n is the number of p: law n is the same
pub record IsNumberOf (laws : List Equation) (p : Equation) (n : ℕ) : Type 0 where
  pub entry : Equation
  pub stands : law_numbered laws n ≡ Some entry
  pub same : Same p entry

-- a law has a number where its sides differ or are one variable
abbrev pub HasNumber : Equation → Type 0
HasNumber p = (p.left ≢ p.right) ⊎ ((v : ℕ) × (p.left ≡ var v) × (p.right ≡ var v))

-- its sides are equal and no lone variable
abbrev pub IsTrivial : Equation → Type 0
IsTrivial p = (p.left ≡ p.right) × ((v : ℕ) → p.left ≢ var v)

-- m is the number of the law whose sides are the duals of those of law n
pub record IsDualOf (laws : List Equation) (n m : ℕ) : Type 0 where
  pub law : Equation
  pub stands : law_numbered laws n ≡ Some law
  pub number : IsNumberOf laws (law_dual law) m

-- the list has, at place n - 1, the number of the dual of law n
pub record AreDuals (laws : List Equation) (duals : List ℕ) : Type 0 where
  pub long : length duals ≡ length laws
  pub each : (n : ℕ) → 0 < n → n ≤ length laws → IsDualOf laws n (dual_number duals n)
