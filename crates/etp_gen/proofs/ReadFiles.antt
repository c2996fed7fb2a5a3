-- The lines of a generated file, read, are the file.
use Rattle.std.proofs.Common.{◌≡◌, ℕ, ◌+◌, ◌<◌, ◌≤◌, ◌^◌, ◌%◌, max, inl, inr, true, false, List, [], ◌∷◌, length, map, refl, sym, ap, ◌∙◌, subst, arith}
use Rattle.std.proofs.lemmas.List.Elements.{All-nil, All-cons}
use Rattle.etp_theory.specs.Trees.{Tree, var, op, Equation, bound, leaves, ops, law_ops, renamed}
use Rattle.etp_theory.specs.Proofs.{ProofStep}
use Rattle.etp_theory.specs.LawNumbers.{IsLaw}
use Rattle.etp_theory.proofs.Theorems.{term_theorems}
use Rattle.etp_io.specs.Texts.{lines_of}
use Rattle.etp_laws.specs.Listing.{IsTheList}
use Rattle.etp_laws.proofs.Entries.{Listed-entry, small_entry}
use Rattle.etp_laws.proofs.Variables.{HasVariables-bound}
use Rattle.etp_lines.specs.ProofLines.{plain, heading, lemma, step}
use Rattle.etp_lines.specs.BodyLines.{proof_line}
use Rattle.etp_items.specs.Bodies.{ProofBody, proof}
use Rattle.etp_items.specs.Reading.{proof_lines, IsReadBody}
use Rattle.etp_items.specs.Written.{written_body, written_proof_line, version_for, IsWritableProofLine, IsWritableBody, IsShortBody}
use Rattle.etp_items.proofs.WrittenReads.{proof_given, written_whole, proof_listed}
use Rattle.etp_items.proofs.TextLines.{given_length}
use Rattle.etp_items.proofs.ShortLines.{valid_body_short}
use Rattle.etp_check.specs.Checks.{IsValidBody}
use Rattle.etp_check.proofs.Rights.{listed_fact}
use Rattle.etp_gen.specs.Draws.{draw}
use Rattle.etp_gen.specs.Files.{drawn_number, drawn_value, IsInstance, one_step, IsGenerated}
use Rattle.etp_gen.proofs.Replacing.{law_ops-renamed, few_variables, some_variable, one_count}
use Rattle.etp_gen.proofs.Valid.{valid_file}

-- a law that can be written: its variables have names, and its sides are small
record IsSmall (p : Equation) : Type 0 where
  left : bound p.left ≤ 7
  right : bound p.right ≤ 7
  small : law_ops p ≤ 5

bound-renamed : (f : ℕ → ℕ) (n : ℕ) → ((v : ℕ) → f v < n) → (t : Tree) → bound (renamed f t) ≤ n
bound-renamed f n h (var v) = omega (arith, h v)
bound-renamed f n h (op l r) = omega (arith, bound-renamed f n h l, bound-renamed f n h r)

small_instance : (law p : Equation) (value : ℕ → ℕ) → IsInstance law value p → max (bound law.left) (bound law.right) ≤ 7 → ((v : ℕ) → value v < 7) → law_ops law ≤ 5 → IsSmall p
small_instance law p value (inl (h, e)) few below small = subst IsSmall (sym e) (record {
  left = bound-renamed value 7 below law.left;
  right = bound-renamed value 7 below law.right;
  small = omega (arith, law_ops-renamed value law, small);
})
small_instance law p value (inr (h, e)) few below small =
    subst IsSmall (sym e) (record { left = omega (arith, few); right = omega (arith, few); small = small })

few_leaves : (t : Tree) → ops t ≤ 5 → leaves t ≤ 255
few_leaves t h = omega (arith, term_theorems.leaves_ops t, h)

writable : (n goal : ℕ) (p : Equation) → n < 2 ^ 32 → goal < 2 ^ 32 → IsSmall p → IsWritableBody (proof (one_step n goal p))
writable n goal p a b small =
    let l = small.left in
    let r = small.right in
    let s = small.small in
    let x : ProofStep = record { to = p.right; line = 0; cited = false; reversed = false; position = [] } in (
      omega arith,
      omega arith,
      All-cons IsWritableProofLine (heading plain n goal) (lemma p.left ∷ step x ∷ []) (a, b)
          (All-cons IsWritableProofLine (lemma p.left) (step x ∷ []) (omega arith, few_leaves p.left (omega arith))
          (All-cons IsWritableProofLine (step x) [] (omega arith, omega arith, few_leaves p.right (omega arith)) (All-nil IsWritableProofLine))),
    )

step_reads : (laws : List Equation) (n goal : ℕ) (p : Equation) → length laws < 2 ^ 32 → IsValidBody laws (proof (one_step n goal p)) [] → IsSmall p
    → IsReadBody (length laws) (lines_of (written_body (proof (one_step n goal p)))) true (proof (one_step n goal p))
step_reads laws n goal p few valid small =
    let file : ProofBody = one_step n goal p in
    let numbers : IsLaw (length laws) n × IsLaw (length laws) goal = listed_fact laws (proof file) valid.listed in
    let a = numbers.0.to_last in
    let b = numbers.1.to_last in
    let w : IsWritableBody (proof file) = writable n goal p (omega arith) (omega arith) small in
    let short : IsShortBody (proof file) = valid_body_short _ _ _ file valid.right w in
    let long = ap length (proof_given file w short) ∙ given_length written_proof_line (proof_lines (version_for file) file) in
    record {
      is_closed = refl;
      few = omega (arith, long);
      is_body = record {
        saids = map proof_line (proof_lines (version_for file) file);
        are_whole = written_whole file w short;
        says = (version_for file, refl);
      };
      listed = proof_listed (length laws) (version_for file) file
          (All-cons (IsLaw (length laws)) n (goal ∷ []) numbers.0 (All-cons (IsLaw (length laws)) goal [] numbers.1 (All-nil (IsLaw (length laws)))));
    }

value_below : (s n i : ℕ) → 0 < n → drawn_value s n i < n
value_below s n i some = below (draw s (2 + i))
  where
    below : (d : ℕ) → d % n < n
    below d = omega (arith, some)

within_seven : (a n m : ℕ) → a < n → n ≡ m → m ≤ 7 → a < 7
within_seven a n m l e h = omega (arith, l, e, h)

pub file_reads : (k : ℕ) (laws : List Equation) (s after : ℕ) (file : ProofBody) → IsTheList k laws → k ≤ 5 → length laws < 2 ^ 32 → IsGenerated laws s file after
    → IsReadBody (length laws) (lines_of (written_body (proof file))) true (proof file)
file_reads k laws s after file l order few h =
    let p = h.proves in
    let valid : IsValidBody laws (proof (one_step (drawn_number s) p.goal p.instance_law)) [] = subst (λ (f : ProofBody). IsValidBody laws (proof f) []) p.file_is (valid_file laws s after file h) in
    let variables = few_variables k laws (drawn_number s) h.law l order h.stands in
    let count = one_count h.law h.n _ h.has_variables (HasVariables-bound h.law (Listed-entry k laws (drawn_number s) h.law l h.stands)) in
    let some = some_variable h.law h.n h.has_variables in
    let small = small_entry k laws (drawn_number s) h.law l h.stands in
    let below : (v : ℕ) → drawn_value s h.n v < 7 = (λ v. within_seven _ h.n _ (value_below s h.n v some) count variables) in
    subst (λ (f : ProofBody). IsReadBody (length laws) (lines_of (written_body (proof f))) true (proof f)) (sym p.file_is)
    (step_reads laws (drawn_number s) p.goal p.instance_law few valid
    (small_instance h.law p.instance_law (drawn_value s h.n) p.is_instance variables below (omega (arith, small, order))))
