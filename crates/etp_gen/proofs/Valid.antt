-- Generated files are valid.
use Rattle.std.proofs.Common.{◌≡◌, ℕ, false, inl, inr, List, [], ◌∷◌, All, Option, Some, IsSome, unwrap_or, refl, sym, ap, ◌∙◌, subst, arith}
use Rattle.std.proofs.lemmas.List.Elements.{All-nil, All-cons}
use Rattle.etp_theory.specs.Trees.{var, Equation}
use Rattle.etp_theory.specs.Sameness.{Same}
use Rattle.etp_theory.specs.Proofs.{IsStepBy}
use Rattle.etp_theory.specs.LawNumbers.{law_numbered}
use Rattle.etp_theory.proofs.Sameness.{renamed_applied}
use Rattle.etp_theory.proofs.Trees.{identity}
use Rattle.etp_laws.specs.Listing.{reflexive_law}
use Rattle.etp_laws.specs.LawLists.{IsNumberOf}
use Rattle.etp_replay.specs.Validity.{law_at}
use Rattle.etp_items.specs.Bodies.{ProofBody, proof}
use Rattle.etp_check.specs.Checks.{IsValidBody}
use Rattle.etp_gen.specs.Files.{IsInstance, one_step, IsGenerated}
use Rattle.etp_gen.specs.Scripts.{AreGenerated}

-- the step by an instance is right
instance_step : (law : Equation) (value : ℕ → ℕ) (p : Equation) → IsInstance law value p → IsStepBy law [] p.left p.right
instance_step law value p (inl (h, e)) = record {
  by = λ v. var (value v);
  before = ap Some (ap (λ (q : Equation). q.left) e ∙ renamed_applied value law.left);
  after = ap Some (ap (λ (q : Equation). q.right) e ∙ renamed_applied value law.right);
  outside = λ u. refl;
}
instance_step law value p (inr (h, e)) = record {
  by = var;
  before = ap Some (ap (λ (q : Equation). q.left) e ∙ sym (identity law.left));
  after = ap Some (ap (λ (q : Equation). q.right) e ∙ sym (identity law.right));
  outside = λ u. refl;
}

is_listed : (laws : List Equation) (n : ℕ) (p : Equation) → law_numbered laws n ≡ Some p → IsSome (law_numbered laws n)
is_listed laws n p h = subst (λ (o : Option Equation). IsSome o) (sym h) refl

law_at-is : (laws : List Equation) (n : ℕ) (p : Equation) → law_numbered laws n ≡ Some p → p ≡ law_at laws n
law_at-is laws n p h = sym (ap (λ o. unwrap_or o reflexive_law) h)

valid_step : (laws : List Equation) (n goal : ℕ) (law p : Equation) (value : ℕ → ℕ) → law_numbered laws n ≡ Some law → IsInstance law value p → IsNumberOf laws p goal
    → IsValidBody laws (proof (one_step n goal p)) []
valid_step laws n goal law p value h i number = record {
  listed = record { hypothesis_listed = is_listed laws n law h; goal_listed = is_listed laws goal number.entry number.stands };
  content = omega arith;
  numbers = record { as_many = refl; cited_listed = λ k d within. absurd (omega (arith, within)) };
  right = record {
    right = (
      (
        record {
          equation = law_at laws n;
          named = refl;
          right = subst (λ (q : Equation). IsStepBy q [] p.left p.right) (law_at-is laws n law h) (instance_step law value p i);
        },
        tt,
      ),
      tt,
    );
    final = record { start = p.left; steps = record { to = p.right; line = 0; cited = false; reversed = false; position = [] } ∷ [] };
    last = refl;
    reached = subst (Same p) (law_at-is laws goal number.entry number.stands) number.same;
  };
}

pub valid_file : (laws : List Equation) (s after : ℕ) (file : ProofBody) → IsGenerated laws s file after → IsValidBody laws (proof file) []
valid_file laws s after file h =
    let p = h.proves in
    subst (λ (f : ProofBody). IsValidBody laws (proof f) []) (sym p.file_is) (valid_step laws _ p.goal h.law p.instance_law _ h.stands p.is_instance p.number)

pub valid_files : (laws : List Equation) (s after : ℕ) (files : List ProofBody) → AreGenerated laws s files after → All (λ file. IsValidBody laws (proof file) []) files
valid_files laws s after [] h = All-nil (λ (file : ProofBody). IsValidBody laws (proof file) [])
valid_files laws s after (file ∷ files) h =
    All-cons (λ (file : ProofBody). IsValidBody laws (proof file) []) file files (valid_file laws s h.0 file h.1) (valid_files laws h.0 after files h.2)
