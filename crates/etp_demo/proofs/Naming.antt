-- The names of generated files, and that none of them cites another.
use Rattle.std.proofs.Common.{◌≡◌, ℕ, suc, ◌+◌, ◌<◌, ◌≤◌, ◌^◌, List, [], ◌∷◌, ◌++◌, length, All, Contains, Bool, true, false, cond, Option, Some, None, is_some, refl, sym, ap, ◌∙◌, subst, arith}
use Rattle.std.proofs.lemmas.List.Elements.{All-nil, All-cons}
use Rattle.std.specs.Str.{bytes_eq}
use Rattle.std.specs.Cmp.Lexicographic.{bytes_decides}
use Rattle.std.specs.Option.{MatchOption}
use Rattle.etp_theory.specs.Trees.{Equation}
use Rattle.etp_items.specs.Bodies.{ProofBody, proof}
use Rattle.etp_gen.specs.Files.{IsGenerated}
use Rattle.etp_gen.specs.Scripts.{AreGenerated, file_name}
use Rattle.etp_gen.proofs.Names.{one_name}
use Rattle.etp_ledger.specs.Files.{File, body_named, Stands}
use Rattle.etp_ledger.specs.Withdrawing.{Cites, without, IsWithdrawn}
use Rattle.etp_ledger.proofs.Naming.{same_bytes}
use Rattle.etp_demo.specs.Demos.{files_from, AreFilesOf}

-- what is no name isn't found to be one
pub none_named : {A : Type 0} (P : Type 0) (Q : A → Type 0) (o : Option A) → MatchOption o (P → ⊥) Q → o ≡ None → P → ⊥
none_named P Q None m e p = m p
none_named P Q (Some x) m e p = absurd (cc)

-- a file behind these has another name
pub free_name : (proofs : List ProofBody) (j k : ℕ) → j + length proofs ≤ k → k < 2 ^ 32 → body_named (file_name k) (files_from j proofs) ≡ None
free_name [] j k h b = refl
free_name (p ∷ proofs) j k h b = by (bytes_eq (file_name k) (file_name j)) refl (free_name proofs (suc j) k (omega (arith, h)) b)
  where
    by : (t : Bool) → bytes_eq (file_name k) (file_name j) ≡ t → body_named (file_name k) (files_from (suc j) proofs) ≡ None
        → cond t (Some (proof p)) (body_named (file_name k) (files_from (suc j) proofs)) ≡ None
    by true e rest = let same : k ≡ j = one_name k j b (omega (arith, h, b)) (same_bytes (file_name k) (file_name j) e) in absurd (omega (arith, h, same))
    by false e rest = rest

-- one more file
pub one_more_named : (k : ℕ) (proofs : List ProofBody) (p : ProofBody)
    → files_from k (proofs ++ p ∷ []) ≡ files_from k proofs ++ record { name = file_name (k + length proofs); body = proof p } ∷ []
one_more_named k [] p = let e : k ≡ k + 0 = omega arith in ap (λ n. record { name = file_name n; body = proof p } ∷ []) e
one_more_named k (q ∷ proofs) p =
    let e : suc k + length proofs ≡ k + suc (length proofs) = omega arith in
    ap (λ (fs : List File). record { name = file_name k; body = proof q } ∷ fs)
    (one_more_named (suc k) proofs p ∙ ap (λ n. files_from (suc k) proofs ++ record { name = file_name n; body = proof p } ∷ []) e)

-- a generated file cites none
no_cite : (laws : List Equation) (s after : ℕ) (p : ProofBody) (name : List ℕ) → IsGenerated laws s p after → Contains p.cites name → ⊥
no_cite laws s after p name g h =
    let none : length p.cites ≡ 0 = ap (λ (f : ProofBody). length f.cites) g.proves.file_is in
    absurd (omega (arith, h.1, none))

uncited : (laws : List Equation) (s after k : ℕ) (proofs : List ProofBody) (name : List ℕ) → AreGenerated laws s proofs after
    → All (λ file. ¬ Cites name file) (files_from k proofs)
uncited laws s after k [] name h = All-nil (λ (file : File). ¬ Cites name file)
uncited laws s after k (p ∷ proofs) name h =
    All-cons (λ (file : File). ¬ Cites name file) (record { name = file_name k; body = proof p }) (files_from (suc k) proofs)
    (no_cite laws s h.0 p name h.1) (uncited laws h.0 after (suc k) proofs name h.2)

first_stands : (proofs : List ProofBody) → 1 ≤ length proofs → Stands (files_from 1 proofs) (file_name 1)
first_stands [] h = absurd (omega (arith, h))
first_stands (p ∷ proofs) h =
    ap (λ t. is_some (cond t (Some (proof p)) (body_named (file_name 1) (files_from 2 proofs)))) ((bytes_decides (file_name 1) (file_name 1)).1 refl)

-- the first file can be withdrawn
pub first_withdrawn : (laws : List Equation) (count seed : ℕ) (files : List File) → 1 ≤ count → AreFilesOf laws count seed files
    → IsWithdrawn files (file_name 1) (without (file_name 1) files)
first_withdrawn laws count seed files some f =
    let many = f.many in
    record {
      stood = subst (λ (fs : List File). Stands fs (file_name 1)) (sym f.files_are) (first_stands f.proofs (omega (arith, some, many)));
      uncited = subst (λ (fs : List File). All (λ file. ¬ Cites (file_name 1) file) fs) (sym f.files_are) (uncited laws _ f.after 1 f.proofs (file_name 1) f.are_generated);
      gone = refl;
    }

-- under the name of file 1
pub first_of : (laws : List Equation) (count seed : ℕ) (files : List File) (name : List ℕ) → 1 ≤ count → AreFilesOf laws count seed files → name ≡ file_name 1
    → IsWithdrawn files name (without name files)
first_of laws count seed files name some f e = subst (λ (n : List ℕ). IsWithdrawn files n (without n files)) (sym e) (first_withdrawn laws count seed files some f)

pub many_files : (laws : List Equation) (count seed : ℕ) (files : List File) → AreFilesOf laws count seed files → length files ≡ count
many_files laws count seed files f = ap length f.files_are ∙ long 1 f.proofs ∙ f.many
  where
    long : (j : ℕ) (proofs : List ProofBody) → length (files_from j proofs) ≡ length proofs
    long j [] = refl
    long j (p ∷ proofs) = ap suc (long (suc j) proofs)
