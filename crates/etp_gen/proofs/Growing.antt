-- One more file.
use Rattle.std.proofs.Common.{◌≡◌, ℕ, suc, ◌+◌, List, [], ◌∷◌, ◌++◌, append_assoc, append-nil, length, refl, sym, ap, ◌∙◌, subst, arith}
use Rattle.std.specs.Prelude.{codes}
use Rattle.etp_theory.specs.Trees.{Equation}
use Rattle.etp_items.specs.Bodies.{ProofBody}
use Rattle.etp_gen.specs.Files.{IsGenerated}
use Rattle.etp_gen.specs.Draws.{start}
use Rattle.etp_gen.specs.Scripts.{AreGenerated, written_file, written_files, IsScript}

pub one_more : (laws : List Equation) (s between after : ℕ) (files : List ProofBody) (file : ProofBody)
    → AreGenerated laws s files between → IsGenerated laws between file after → AreGenerated laws s (files ++ file ∷ []) after
one_more laws s between after [] file h g = (after, subst (λ m. IsGenerated laws m file after) (sym h) g, refl)
one_more laws s between after (f ∷ fs) file h g = (h.0, h.1, one_more laws h.0 between after fs file h.2 g)

pub one_longer : (files : List ProofBody) (file : ProofBody) → length (files ++ file ∷ []) ≡ suc (length files)
one_longer [] file = refl
one_longer (f ∷ fs) file = ap suc (one_longer fs file)

pub written_more : (k : ℕ) (files : List ProofBody) (file : ProofBody)
    → written_files k (files ++ file ∷ []) ≡ written_files k files ++ written_file (k + length files) file
written_more k [] file = let e : k ≡ k + 0 = omega arith in append-nil (written_file k file) ∙ ap (λ n. written_file n file) e
written_more k (f ∷ fs) file =
    let e : suc k + length fs ≡ k + suc (length fs) = omega arith in
    ap (λ (w : List ℕ). written_file k f ++ w) (written_more (suc k) fs file ∙ ap (λ n. written_files (suc k) fs ++ written_file n file) e)
    ∙ sym (append_assoc (written_file k f) (written_files (suc k) fs) (written_file (k + suc (length fs)) file))

-- what stands in the text after k files from a state
pub record HasWritten (laws : List Equation) (s k state : ℕ) (text : List ℕ) : Type 0 where
  pub files : List ProofBody
  pub many : length files ≡ k
  pub are_generated : AreGenerated laws s files state
  pub text_is : text ≡ written_files 1 files

pub none_written : (laws : List Equation) (s state : ℕ) (text : List ℕ) → state ≡ s → text ≡ [] → HasWritten laws s 0 state text
none_written laws s state text e f = record { files = []; many = refl; are_generated = sym e; text_is = f }

pub more_written : (laws : List Equation) (s k state after : ℕ) (text longer : List ℕ) (file : ProofBody) → HasWritten laws s k state text
    → IsGenerated laws state file after → longer ≡ text ++ written_file (k + 1) file → HasWritten laws s (k + 1) after longer
more_written laws s k state after text longer file h g e =
    let many = h.many in
    let number : k + 1 ≡ 1 + length h.files = omega (arith, many) in
    record {
      files = h.files ++ file ∷ [];
      many = omega (arith, many, one_longer h.files file);
      are_generated = one_more laws s state after h.files file h.are_generated g;
      text_is = e ∙ ap (λ (t : List ℕ). t ++ written_file (k + 1) file) h.text_is ∙ ap (λ n. written_files 1 h.files ++ written_file n file) number
          ∙ sym (written_more 1 h.files file);
    }

pub all_written : (laws : List Equation) (count seed k state : ℕ) (text whole : List ℕ) → HasWritten laws (start seed) k state text → k ≡ count
    → whole ≡ text ++ (codes "counts" ++ 10 ∷ []) → IsScript laws count seed whole
all_written laws count seed k state text whole h e f = record {
  files = h.files;
  after = state;
  many = h.many ∙ e;
  are_generated = h.are_generated;
  text_is = f ∙ sym (append_assoc text (codes "counts") (10 ∷ [])) ∙ ap (λ (t : List ℕ). t ++ codes "counts" ++ 10 ∷ []) h.text_is;
}
