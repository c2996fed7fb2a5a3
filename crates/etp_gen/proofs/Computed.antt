-- The first file of seed 7, and laws with equal sides.
use Rattle.std.proofs.Common.{◌≡◌, ℕ, zero, suc, ◌<◌, inl, inr, List, [], ◌∷◌, ◌++◌, append-nil, Some, refl, sym, ap, ◌∙◌, arith}
use Rattle.std.specs.Prelude.{codes, decimal}
use Rattle.std.proofs.lemmas.Fmt.{decimal_digit, decimal-digits_of}
use Rattle.etp_theory.specs.Trees.{Tree, var, op, Equation, law_word}
use Rattle.etp_theory.specs.Sameness.{Same}
use Rattle.etp_theory.specs.LawNumbers.{law_numbered}
use Rattle.etp_theory.proofs.Sameness.{swap, swap_injective}
use Rattle.etp_laws.specs.LawLists.{HasVariables}
use Rattle.etp_laws.proofs.Rising.{In, Contains-from_in}
use Rattle.etp_laws.proofs.Unique.{In-from_contains}
use Rattle.etp_gen.specs.Files.{IsInstance, one_step, IsGenerated}
use Rattle.etp_gen.specs.Scripts.{file_name, written_file, IsScript}
use Rattle.etp_gen.specs.Examples.{law_600, law_581, instance_600, commutativity, squares, equal_all, reflexive, first_text}

-- the variables of law 600 are 0 to 3
below_four : (v : ℕ) → In v (law_word law_600) → v < 4
below_four v (inl e) = omega (arith, e)
below_four v (inr (inl e)) = omega (arith, e)
below_four v (inr (inr (inl e))) = omega (arith, e)
below_four v (inr (inr (inr (inl e)))) = omega (arith, e)
below_four v (inr (inr (inr (inr (inl e))))) = omega (arith, e)
below_four v (inr (inr (inr (inr (inr (inl e)))))) = omega (arith, e)
below_four v (inr (inr (inr (inr (inr (inr h)))))) = absurd h

in_600 : (v : ℕ) → v < 4 → In v (law_word law_600)
in_600 zero h = inl refl
in_600 (suc zero) h = inr (inl refl)
in_600 (suc (suc zero)) h = inr (inr (inl refl))
in_600 (suc (suc (suc zero))) h = inr (inr (inr (inl refl)))
in_600 (suc (suc (suc (suc v)))) h = absurd (omega (arith, h))

four_variables : HasVariables law_600 4
four_variables v = (λ h. below_four v (In-from_contains (law_word law_600) v h), λ h. Contains-from_in v (law_word law_600) (in_600 v h))

-- w, x and y renamed to x, y and z
turned : ℕ → ℕ
turned v = swap 2 3 (swap 1 3 (swap 0 3 v))

turned_same : Same instance_600 law_581
unfolding turned
turned_same = (turned, λ x y h. swap_injective 0 3 x y (swap_injective 1 3 _ _ (swap_injective 2 3 _ _ h)), inl refl)

apart : (v : ℕ) (l r : Tree) → var v ≡ op l r → ⊥
apart v l r e = cc

pub first_file : (laws : List Equation) → law_numbered laws 600 ≡ Some law_600 → law_numbered laws 581 ≡ Some law_581
    → IsGenerated laws 7 (one_step 600 581 instance_600) 10061
first_file laws h g = record {
  law = law_600;
  n = 4;
  stands = h;
  has_variables = four_variables;
  proves = record {
    instance_law = instance_600;
    goal = 581;
    is_instance = inl (inl (λ e. apart _ _ _ e), refl);
    number = record { entry = law_581; stands = g; same = turned_same };
    file_is = refl;
  };
  after_is = refl;
}

-- numbers as they are written
is_0 : decimal 0 ≡ codes "0"
is_0 = decimal_digit 0 (omega arith)

is_1 : decimal 1 ≡ codes "1"
is_1 = decimal_digit 1 (omega arith)

is_581 : decimal 581 ≡ codes "581"
is_581 = decimal-digits_of 581 (omega arith) (omega arith)

is_600 : decimal 600 ≡ codes "600"
is_600 = decimal-digits_of 600 (omega arith) (omega arith)

pub tenth_name : file_name 10 ≡ codes "g10"
tenth_name = ap (λ (w : List ℕ). codes "g" ++ w) (decimal-digits_of 10 (omega arith) (omega arith))

pub text_is_first : written_file 1 (one_step 600 581 instance_600) ≡ first_text
text_is_first = rw (is_1, is_600, is_581, is_0) refl

pub first_script : (laws : List Equation) → law_numbered laws 600 ≡ Some law_600 → law_numbered laws 581 ≡ Some law_581
    → IsScript laws 1 7 (first_text ++ codes "counts" ++ 10 ∷ [])
first_script laws h g = record {
  files = one_step 600 581 instance_600 ∷ [];
  after = 10061;
  many = refl;
  are_generated = (10061, first_file laws h g, refl);
  text_is = ap (λ (w : List ℕ). w ++ codes "counts" ++ 10 ∷ []) (sym (append-nil (written_file 1 (one_step 600 581 instance_600)) ∙ text_is_first));
}

no_variable : (v : ℕ) (l r : Tree) → op l r ≡ var v → ⊥
no_variable v l r e = cc

pub kept : IsInstance commutativity (λ v. 0) commutativity
kept = inr ((refl, λ v e. no_variable v _ _ e), refl)

pub not_squares : IsInstance commutativity (λ v. 0) squares → ⊥
not_squares (inl (inl n, e)) = n refl
not_squares (inl (inr (v, l, r), e)) = no_variable v _ _ l
not_squares (inr (t, e)) = other (ap (λ (q : Equation). q.right) e)
  where
    other : op (var 0) (var 0) ≡ op (var 1) (var 0) → ⊥
    other e = let same : ◌≡◌ {A = ℕ} 0 1 = cc in omega (arith, same)

pub lone : IsInstance equal_all (λ v. 0) reflexive
lone = inl (inr (0, refl, refl), refl)

pub not_kept : IsInstance equal_all (λ v. 0) equal_all → ⊥
not_kept (inl (n, e)) = other (ap (λ (q : Equation). q.right) e)
  where
    other : var 1 ≡ var 0 → ⊥
    other e = let same : ◌≡◌ {A = ℕ} 1 0 = cc in omega (arith, same)
not_kept (inr (t, e)) = t.1 0 refl
