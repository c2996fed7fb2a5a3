-- A ledger that takes generated files: each is read again as it is, and accepted.
use Rattle.std.proofs.Common.{◌≡◌, ◌⊎◌, inl, inr, ℕ, suc, ◌+◌, ◌<◌, ◌≤◌, ◌^◌, true, List, [], ◌∷◌, ◌++◌, length, map, All, None, refl, sym, ap, ◌∙◌, subst, arith}
use Rattle.std.proofs.lemmas.List.Elements.{All-nil}
use Rattle.etp_theory.specs.Trees.{Equation}
use Rattle.etp_laws.specs.Listing.{IsTheList}
use Rattle.etp_laws.specs.LawLists.{LawList}
use Rattle.etp_io.specs.Texts.{LineText, lines_of}
use Rattle.etp_items.specs.Bodies.{ProofBody, FileBody, proof}
use Rattle.etp_items.specs.Written.{written_body}
use Rattle.etp_items.specs.Reading.{IsReadBody, Refuses}
use Rattle.etp_reading.specs.declared.refusal.BodyRefusal.{BodyRefusal}
use Rattle.etp_items.proofs.Theorems.{body_theorems}
use Rattle.etp_check.specs.Checks.{IsValidBody, hypothesis_of}
use Rattle.etp_gen.specs.Draws.{start}
use Rattle.etp_gen.specs.Files.{IsGenerated}
use Rattle.etp_gen.specs.Scripts.{AreGenerated, file_name}
use Rattle.etp_gen.proofs.Growing.{one_more, one_longer}
use Rattle.etp_gen.proofs.Names.{is_name}
use Rattle.etp_gen.proofs.ReadFiles.{file_reads}
use Rattle.etp_gen.proofs.Valid.{valid_file}
use Rattle.etp_ledger.specs.Files.{File, body_named, StandsAsProof, goal_in}
use Rattle.etp_ledger.specs.Ledgers.{Entries, IsOver}
use Rattle.etp_ledger.specs.Accepting.{IsAccepted}
use Rattle.etp_demo.specs.Demos.{files_from, AreFilesOf}
use Rattle.etp_demo.proofs.Naming.{free_name, one_more_named}

-- a generated file, as some state gives it
abbrev pub IsSomeFile : List Equation → ProofBody → Type 0
IsSomeFile laws p = (s : ℕ) × (after : ℕ) × IsGenerated laws s p after

-- the lines of its text are the file
pub reads_again : (order count : ℕ) (laws : List Equation) (p : ProofBody) (text : List ℕ) → IsTheList order laws → (order ≡ 4) ⊎ (order ≡ 5) → count ≡ length laws → count < 2 ^ 32
    → IsSomeFile laws p → text ≡ written_body (proof p) → IsReadBody count (lines_of text) true (proof p)
reads_again order count laws p text list known long few g e =
    subst (λ (t : List ℕ). IsReadBody count (lines_of t) true (proof p)) (sym e)
    (subst (λ n. IsReadBody n (lines_of (written_body (proof p))) true (proof p)) (sym long)
    (file_reads order laws g.0 g.1 p list (by known) (omega (arith, long, few)) g.2))
  where
    by : (order ≡ 4) ⊎ (order ≡ 5) → order ≤ 5
    by (inl e) = omega (arith, e)
    by (inr e) = omega (arith, e)

-- and no other body
pub one_read : (count : ℕ) (text : List ℕ) (b c : FileBody) → IsReadBody count (lines_of text) true b → IsReadBody count (lines_of text) true c → b ≡ c
one_read count text b c h k = body_theorems.one_body (lines_of text) b c h.is_body k.is_body

-- nor are they refused
pub not_refused : (count n : ℕ) (lines : List LineText) (r : BodyRefusal) → ((body : FileBody) × IsReadBody count lines true body) → n ≡ count → Refuses n lines true r → ⊥
not_refused count n lines r b e h = body_theorems.body_stands count lines true b.0 r b.1 (subst (λ m. Refuses m lines true r) e h)

-- under a free name it is accepted
pub is_accepted : (laws : List Equation) (files : List File) (k : ℕ) (p : ProofBody) → k < 2 ^ 32 → body_named (file_name k) files ≡ None → IsSomeFile laws p
    → IsAccepted laws files (file_name k) (proof p)
is_accepted laws files k p few free g =
    let valid : IsValidBody laws (proof p) [] = valid_file laws g.0 g.1 p g.2 in
    let none : p.cites ≡ [] = ap (λ (f : ProofBody). f.cites) g.2.proves.file_is in
    record {
      spelled = is_name k few;
      free = free;
      valid = record {
        cited = subst (All (StandsAsProof files (hypothesis_of (proof p)))) (sym none) (All-nil (StandsAsProof files (hypothesis_of (proof p))));
        valid = subst (IsValidBody laws (proof p)) (ap (map (λ name. goal_in (body_named name files))) (sym none)) valid;
      };
    }

-- so is what is named and read so
pub accepted_as : (laws : List Equation) (files : List File) (k : ℕ) (p : ProofBody) (name : List ℕ) (body : FileBody) → k < 2 ^ 32 → body_named (file_name k) files ≡ None
    → IsSomeFile laws p → name ≡ file_name k → body ≡ proof p → IsAccepted laws files name body
accepted_as laws files k p name body few free g e f =
    subst (λ (n : List ℕ). IsAccepted laws files n body) (sym e) (subst (IsAccepted laws files (file_name k)) (sym f) (is_accepted laws files k p few free g))

-- a ledger stays over its laws
pub stays_over : (laws : LawList) (old new : Entries) → IsOver laws old → new.order ≡ old.order → new.closure.duals ≡ old.closure.duals → IsOver laws new
stays_over laws old new over order duals = record {
  list = over.list;
  same_order = order ∙ over.same_order;
  same_duals = duals ∙ over.same_duals;
  same_size = ap length duals ∙ over.same_size;
}

-- files that a seed gives first, and the state after them
pub record HasFiles (laws : List Equation) (s k state : ℕ) (files : List File) : Type 0 where
  pub proofs : List ProofBody
  pub many : length proofs ≡ k
  pub are_generated : AreGenerated laws s proofs state
  pub files_are : files ≡ files_from 1 proofs

pub no_files : (laws : List Equation) (s state : ℕ) (files : List File) → state ≡ s → files ≡ [] → HasFiles laws s 0 state files
no_files laws s state files e f = record { proofs = []; many = refl; are_generated = sym e; files_are = f }

pub more_files : (laws : List Equation) (s k state after : ℕ) (files more : List File) (p : ProofBody) → HasFiles laws s k state files → IsGenerated laws state p after
    → more ≡ files ++ record { name = file_name (k + 1); body = proof p } ∷ [] → HasFiles laws s (k + 1) after more
more_files laws s k state after files more p h g e =
    let many = h.many in
    let number : k + 1 ≡ 1 + length h.proofs = omega (arith, many) in
    record {
      proofs = h.proofs ++ p ∷ [];
      many = omega (arith, many, one_longer h.proofs p);
      are_generated = one_more laws s state after h.proofs p h.are_generated g;
      files_are = e ∙ ap (λ (fs : List File). fs ++ record { name = file_name (k + 1); body = proof p } ∷ []) h.files_are
          ∙ ap (λ n. files_from 1 h.proofs ++ record { name = file_name n; body = proof p } ∷ []) number ∙ sym (one_more_named 1 h.proofs p);
    }

pub next_free : (laws : List Equation) (s k state : ℕ) (files : List File) → HasFiles laws s k state files → k + 1 < 2 ^ 32 → body_named (file_name (k + 1)) files ≡ None
next_free laws s k state files h few =
    let many = h.many in
    ap (body_named (file_name (k + 1))) h.files_are ∙ free_name h.proofs 1 (k + 1) (omega (arith, many)) few

pub long_files : (laws : List Equation) (s k state : ℕ) (files : List File) → HasFiles laws s k state files → length files ≡ k
long_files laws s k state files h = ap length h.files_are ∙ long 1 h.proofs ∙ h.many
  where
    long : (j : ℕ) (proofs : List ProofBody) → length (files_from j proofs) ≡ length proofs
    long j [] = refl
    long j (p ∷ proofs) = ap suc (long (suc j) proofs)

pub all_files : (laws : List Equation) (count seed k state : ℕ) (files : List File) → HasFiles laws (start seed) k state files → k ≡ count → AreFilesOf laws count seed files
all_files laws count seed k state files h e = record { proofs = h.proofs; after = state; many = h.many ∙ e; are_generated = h.are_generated; files_are = h.files_are }
