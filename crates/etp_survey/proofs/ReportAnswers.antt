-- Replies that report on all pairs from the parts that give them.
use Rattle.std.proofs.Common.{◌≡◌, ℕ, zero, suc, ◌+◌, ◌<◌, List, [], ◌∷◌, ◌++◌, length, refl, sym, ◌∙◌, ap, subst, arith, Bool, true, false, append-nil, append_assoc, take, get_or, drop}
use Rattle.std.specs.Prelude.{codes, decimal, flat_map, IsTrue, ◌↔◌}
use Rattle.std.proofs.lemmas.List.{flat_map_more, take_more}
use Rattle.etp_theory.specs.Reach.{Fact}
use Rattle.etp_theory.specs.LawNumbers.{IsLaw}
use Rattle.etp_laws.specs.LawLists.{LawList}
use Rattle.etp_closure.specs.Closures.{Known, StandsFor}
use Rattle.etp_closure.specs.Answers.{answer_of, Says}
use Rattle.etp_closure.specs.declared.facts.Answer.TheVariants.{Implied, Refuted, Unsettled}
use Rattle.etp_items.specs.Written.{spaced_behind}
use Rattle.etp_ledger.specs.Files.{facts_of}
use Rattle.etp_ledger.specs.Ledgers.{Entries, IsOver}
use Rattle.etp_report.specs.Reports.{row_with, class_with, classes_with}
use Rattle.etp_report.specs.Blocks.{block_text, IsBlock}
use Rattle.etp_report.proofs.Lists.{row_lengths}
use Rattle.etp_print.specs.Texts.{answered, refused, reply_text}
use Rattle.etp_print.specs.Given.{Gives}
use Rattle.etp_print.proofs.GivenLemmas.{untrue}
use Rattle.etp_survey.specs.PairReplies.{AreAnswers, RowReply, no_row, row_shown, row_text, ClassReply, no_class, class_shown, class_text, ClassesReply, classes_text, class_line, CsvReply, no_block, block_shown}

-- a closure of a ledger over these laws
pub record Stands (laws : LawList) (ledger : Entries) (closure : Known) : Type 0 where
  pub over : IsOver laws ledger
  pub same : closure ≡ ledger.closure
  pub stands : StandsFor ledger.closure (facts_of ledger.files)

-- what its answers say
abbrev pub IsSaying : Known → Type 0
IsSaying closure = (facts : List Fact) → StandsFor closure facts → (e f : ℕ) → Says closure.duals facts e f (answer_of closure e f)

module _ (laws : LawList) (ledger : Entries) (closure : Known) (s : Stands laws ledger closure) where
  size : length closure.duals ≡ length laws.equations
  size = ap (λ (k : Known). length k.duals) s.same ∙ s.over.same_size

  -- its answers are those by what the files say
  are-answers : IsSaying closure → AreAnswers laws ledger.files (answer_of closure)
  are-answers says e f =
      let duals : closure.duals ≡ laws.duals = ap (λ (k : Known). k.duals) s.same ∙ s.over.same_duals in
      let there : StandsFor closure (facts_of ledger.files) = subst (λ (k : Known). StandsFor k (facts_of ledger.files)) (sym s.same) s.stands in
      subst (λ (k : List ℕ). Says k (facts_of ledger.files) e f (answer_of closure e f)) duals (says (facts_of ledger.files) there e f)

  no-law : (e : ℕ) → ¬ IsLaw (length closure.duals) e → ¬ IsLaw (length laws.equations) e
  no-law e n l = n (subst (λ k. IsLaw k e) (sym size) l)

  pub answers-no_row : (e n : ℕ) (text : List ℕ) (flag : Bool) → ¬ IsLaw (length closure.duals) e
      → (text ≡ reply_text n (refused (codes "unknown law " ++ decimal e))) × (flag ≡ true) → Gives n text flag (RowReply laws ledger.files e)
  answers-no_row e n text flag none h = record { reply = refused (codes "unknown law " ++ decimal e); is = no_row (no-law e none) refl; text_is = h.0; refused_is = h.1 }

  pub answers-row : IsSaying closure → (e n unsettled : ℕ) (implied refuted old text : List ℕ) → IsLaw (length closure.duals) e
      → implied ≡ row_with (answer_of closure) (length closure.duals) Implied e → refuted ≡ row_with (answer_of closure) (length closure.duals) Refuted e
      → length implied + length refuted + unsettled ≡ length closure.duals → old ≡ [] → text ≡ old ++ row_text e implied refuted unsettled
      → Gives n text false (RowReply laws ledger.files e)
  answers-row says e n unsettled implied refuted old text law i r u none t =
      let p = answer_of closure in
      let rest : unsettled ≡ length (row_with p (length closure.duals) Unsettled e) =
      let whole = row_lengths p (length closure.duals) e in
      let a = ap length i in
      let b = ap length r in
      omega (arith, whole, a, b, u) in
      record {
        reply = answered (row_text e (row_with p (length laws.equations) Implied e) (row_with p (length laws.equations) Refuted e) (length (row_with p (length laws.equations) Unsettled e)));
        is = row_shown p (are-answers says) (subst (λ k. IsLaw k e) size law) refl;
        text_is =
            t ∙ ap (λ (x : List ℕ). x ++ row_text e implied refuted unsettled) none
            ∙ ap (λ (x : List ℕ). row_text e x refuted unsettled) i ∙ ap (λ (x : List ℕ). row_text e (row_with p (length closure.duals) Implied e) x unsettled) r
            ∙ ap (row_text e (row_with p (length closure.duals) Implied e) (row_with p (length closure.duals) Refuted e)) rest
            ∙ ap (λ k. row_text e (row_with p k Implied e) (row_with p k Refuted e) (length (row_with p k Unsettled e))) size;
        refused_is = refl;
      }

  pub answers-no_class : (e n : ℕ) (text : List ℕ) (flag : Bool) → ¬ IsLaw (length closure.duals) e
      → (text ≡ reply_text n (refused (codes "unknown law " ++ decimal e))) × (flag ≡ true) → Gives n text flag (ClassReply laws ledger.files e)
  answers-no_class e n text flag none h = record { reply = refused (codes "unknown law " ++ decimal e); is = no_class (no-law e none) refl; text_is = h.0; refused_is = h.1 }

  pub answers-class : IsSaying closure → (e n : ℕ) (found old text : List ℕ) → IsLaw (length closure.duals) e → found ≡ class_with (answer_of closure) (length closure.duals) e
      → old ≡ [] → text ≡ old ++ class_text e found → Gives n text false (ClassReply laws ledger.files e)
  answers-class says e n found old text law is none t = record {
    reply = answered (class_text e (class_with (answer_of closure) (length laws.equations) e));
    is = class_shown (answer_of closure) (are-answers says) (subst (λ k. IsLaw k e) size law) refl;
    text_is = t ∙ ap (λ (x : List ℕ). x ++ class_text e found) none ∙ ap (class_text e) (is ∙ ap (λ k. class_with (answer_of closure) k e) size);
    refused_is = refl;
  }

  pub answers-classes : IsSaying closure → (n : ℕ) (found : List (List ℕ)) (old text : List ℕ) → found ≡ classes_with (answer_of closure) (length closure.duals)
      → old ≡ [] → text ≡ old ++ classes_text found → Gives n text false (ClassesReply laws ledger.files)
  answers-classes says n found old text is none t = record {
    reply = answered (classes_text (classes_with (answer_of closure) (length laws.equations)));
    is = record { answer_to = answer_of closure; says = are-answers says; reply_is = refl };
    text_is = t ∙ ap (λ (x : List ℕ). x ++ classes_text found) none ∙ ap classes_text (is ∙ ap (classes_with (answer_of closure)) size);
    refused_is = refl;
  }

  pub answers-no_block : (first last n : ℕ) (text : List ℕ) (flag : Bool) → ¬ IsBlock (length closure.duals) first last
      → (text ≡ reply_text n (refused (codes "block " ++ decimal first ++ codes " " ++ decimal last))) × (flag ≡ true) → Gives n text flag (CsvReply laws ledger.files first last)
  answers-no_block first last n text flag none h = record {
    reply = refused (codes "block " ++ decimal first ++ codes " " ++ decimal last);
    is = no_block (λ b. none (subst (λ k. IsBlock k first last) (sym size) b)) refl;
    text_is = h.0;
    refused_is = h.1;
  }

  pub answers-block : IsSaying closure → (first last n : ℕ) (block old text : List ℕ) → IsBlock (length closure.duals) first last → block ≡ block_text (answer_of closure) first last
      → old ≡ [] → text ≡ old ++ block → Gives n text false (CsvReply laws ledger.files first last)
  answers-block says first last n block old text there is none t = record {
    reply = answered (block_text (answer_of closure) first last);
    is = block_shown (answer_of closure) (are-answers says) (subst (λ k. IsBlock k first last) size there) refl;
    text_is = t ∙ ap (λ (x : List ℕ). x ++ block) none ∙ is;
    refused_is = refl;
  }

-- the line of a class
pub class_line-short : (class : List ℕ) → length class < 2 → class_line class ≡ []
class_line-short [] h = refl
class_line-short (law ∷ []) h = refl
class_line-short (law ∷ other ∷ others) h = absurd (omega arith)

pub class_line-long : (class : List ℕ) → 1 < length class → class_line class ≡ decimal (get_or class 0 0) ++ spaced_behind (drop 1 class) ++ 10 ∷ []
class_line-long [] h = absurd (omega arith)
class_line-long (law ∷ []) h = absurd (omega arith)
class_line-long (law ∷ other ∷ others) h = refl

-- the lines of one class more
pub lines-more : (f : List ℕ → List ℕ) (xs : List (List ℕ)) (i : ℕ) (x start old new : List ℕ) → i < length xs → x ≡ get_or xs i x
    → old ≡ start ++ flat_map f (take i xs) → new ≡ old ++ f x → new ≡ start ++ flat_map f (take (i + 1) xs)
lines-more f xs i x start old new h at so e =
    e ∙ ap (λ (ys : List ℕ). ys ++ f x) so ∙ flat_map_more f start (take i xs) x
    ∙ ap (λ (y : List ℕ). start ++ flat_map f (take i xs ++ y ∷ [])) at ∙ ap (λ (ys : List (List ℕ)). start ++ flat_map f ys) (sym (take_more xs i x h))

-- a number that is none of the laws
pub unlisted : (known : Known) (count e : ℕ) (flag : Bool) → count ≡ length known.duals → IsTrue flag ↔ IsLaw count e → flag ≡ false → ¬ IsLaw (length known.duals) e
unlisted known count e flag same test off l = untrue flag (IsLaw count e) test off (subst (λ k. IsLaw k e) (sym same) l)

pub listed : (known : Known) (count e : ℕ) (flag : Bool) → count ≡ length known.duals → IsTrue flag ↔ IsLaw count e → flag ≡ true → IsLaw (length known.duals) e
listed known count e flag same test on = subst (λ k. IsLaw k e) same (test.0 on)
