-- A state gives one file, and a seed one script.
use Rattle.std.proofs.Common.{◌≡◌, ℕ, ◌+◌, inl, inr, List, [], ◌∷◌, ◌++◌, length, refl, sym, ap, ap₂, ◌∙◌, subst, subst₂, arith}
use Rattle.std.specs.Prelude.{codes}
use Rattle.std.proofs.lemmas.Option.{same_Some}
use Rattle.etp_theory.specs.Trees.{Equation}
use Rattle.etp_laws.specs.Listing.{IsTheList}
use Rattle.etp_laws.specs.LawLists.{HasVariables, IsNumberOf, HasNumber, IsTrivial}
use Rattle.etp_laws.proofs.DualNumbers.{one_number_of}
use Rattle.etp_items.specs.Bodies.{ProofBody}
use Rattle.etp_gen.specs.Draws.{draw, start}
use Rattle.etp_gen.specs.Files.{drawn_number, drawn_value, IsInstance, one_step, ProvesInstance, IsGenerated}
use Rattle.etp_gen.specs.Scripts.{AreGenerated, written_files, IsScript}
use Rattle.etp_gen.proofs.Replacing.{one_count}

pub not_both : (p : Equation) → HasNumber p → IsTrivial p → ⊥
not_both p (inl n) t = n t.0
not_both p (inr (v, l, r)) t = t.1 v l

one_instance : (law : Equation) (value : ℕ → ℕ) (p q : Equation) → IsInstance law value p → IsInstance law value q → p ≡ q
one_instance law value p q (inl (a, e)) (inl (b, f)) = e ∙ sym f
one_instance law value p q (inl (a, e)) (inr (b, f)) = absurd (not_both _ a b)
one_instance law value p q (inr (a, e)) (inl (b, f)) = absurd (not_both _ b a)
one_instance law value p q (inr (a, e)) (inr (b, f)) = e ∙ sym f

one_proof : (k : ℕ) (laws : List Equation) (h : ℕ) (law : Equation) (value : ℕ → ℕ) (file other : ProofBody) → IsTheList k laws
    → ProvesInstance laws h law value file → ProvesInstance laws h law value other → file ≡ other
one_proof k laws h law value file other l a b =
    let same : a.instance_law ≡ b.instance_law = one_instance law value a.instance_law b.instance_law a.is_instance b.is_instance in
    let goal : a.goal ≡ b.goal = one_number_of k laws b.instance_law a.goal b.goal l (subst (λ (p : Equation). IsNumberOf laws p a.goal) same a.number) b.number in
    a.file_is ∙ ap₂ (one_step h) goal same ∙ sym b.file_is

pub one_file : (k : ℕ) (laws : List Equation) (s : ℕ) (file other : ProofBody) (after later : ℕ) → IsTheList k laws
    → IsGenerated laws s file after → IsGenerated laws s other later → (file ≡ other) × (after ≡ later)
one_file k laws s file other after later l h i =
    let law : i.law ≡ h.law = same_Some _ _ (sym i.stands ∙ h.stands) in
    let has : HasVariables h.law i.n = subst (λ (p : Equation). HasVariables p i.n) law i.has_variables in
    let n : i.n ≡ h.n = one_count h.law i.n h.n has h.has_variables in
    let proves : ProvesInstance laws (drawn_number s) h.law (drawn_value s h.n) other =
    subst₂ (λ (p : Equation) (m : ℕ). ProvesInstance laws (drawn_number s) p (drawn_value s m) other) law n i.proves in (
      one_proof k laws (drawn_number s) h.law (drawn_value s h.n) file other l h.proves proves,
      h.after_is ∙ ap (λ m. draw s (1 + m)) (sym n) ∙ sym i.after_is,
    )

one_list : (k : ℕ) (laws : List Equation) (s : ℕ) (files others : List ProofBody) (after later : ℕ) → IsTheList k laws
    → AreGenerated laws s files after → AreGenerated laws s others later → length files ≡ length others → files ≡ others
one_list k laws s [] [] after later l h i e = refl
one_list k laws s [] (o ∷ os) after later l h i e = absurd (omega (arith, e))
one_list k laws s (f ∷ fs) [] after later l h i e = absurd (omega (arith, e))
one_list k laws s (f ∷ fs) (o ∷ os) after later l h i e =
    let first = one_file k laws s f o h.0 i.0 l h.1 i.1 in
    let rest : AreGenerated laws h.0 os later = subst (λ m. AreGenerated laws m os later) (sym first.1) i.2 in
    ap₂ (λ (x : ProofBody) (xs : List ProofBody). x ∷ xs) first.0 (one_list k laws h.0 fs os after later l h.2 rest (omega (arith, e)))

pub one_script : (k : ℕ) (laws : List Equation) (count seed : ℕ) (text other : List ℕ) → IsTheList k laws
    → IsScript laws count seed text → IsScript laws count seed other → text ≡ other
one_script k laws count seed text other l a b =
    let files : a.files ≡ b.files = one_list k laws (start seed) a.files b.files a.after b.after l a.are_generated b.are_generated (a.many ∙ sym b.many) in
    a.text_is ∙ ap (λ (fs : List ProofBody). written_files 1 fs ++ codes "counts" ++ 10 ∷ []) files ∙ sym b.text_is
