-- What the number of a conclusion says of the goal.
use Rattle.std.proofs.Common.{◌≡◌, ◌⊎◌, inl, inr, ℕ, ◌+◌, List, Option, Some, None, IsSome, unwrap_or, refl, sym, ap, ap₂, ◌∙◌, subst, arith, add_comm}
use Rattle.etp_theory.specs.Trees.{Tree, var, op, ops, law_ops, renamed, law_renamed, exchanged, Equation}
use Rattle.etp_theory.specs.Sameness.{Same}
use Rattle.etp_laws.specs.Listing.{IsTheList, reflexive_law}
use Rattle.etp_theory.specs.LawNumbers.{law_numbered}
use Rattle.etp_laws.specs.LawLists.{LawList, IsNumberOf}
use Rattle.etp_laws.specs.NumberAnswers.{IsNumberAnswer}
use Rattle.etp_laws.specs.declared.laws.Numbered.{Numbered}
use Rattle.etp_laws.specs.declared.laws.Numbered.TheVariants.{Is, Trivial, TooManyOps}
use Rattle.etp_laws.proofs.ReflexiveLaw.{none_same}
use Rattle.etp_laws.proofs.Entries.{Listed-entry, small_entry}
use Rattle.etp_replay.specs.Validity.{law_at}

ops_renamed : (f : ℕ → ℕ) (t : Tree) → ops (renamed f t) ≡ ops t
ops_renamed f (var v) = refl
ops_renamed f (op l r) = ap₂ (λ x y. x + y + 1) (ops_renamed f l) (ops_renamed f r)

same_ops : (p q : Equation) → Same p q → law_ops p ≡ law_ops q
same_ops p q s = go s.2
  where
    kept : law_ops (law_renamed s.0 p) ≡ law_ops p
    kept = ap₂ (λ x y. x + y) (ops_renamed s.0 p.left) (ops_renamed s.0 p.right)

    go : (law_renamed s.0 p ≡ q) ⊎ (law_renamed s.0 p ≡ exchanged q) → law_ops p ≡ law_ops q
    go (inl e) = sym kept ∙ ap law_ops e
    go (inr e) = sym kept ∙ ap law_ops e ∙ add_comm (ops q.right) (ops q.left)

pub listed_law : (laws : List Equation) (n : ℕ) → IsSome (law_numbered laws n) → law_numbered laws n ≡ Some (law_at laws n)
listed_law laws n h = go (law_numbered laws n) h
  where
    go : (o : Option Equation) → IsSome o → o ≡ Some (unwrap_or o reflexive_law)
    go None k = absurd (cc)
    go (Some e) k = refl

module _ (l : LawList) (is : IsTheList l.order l.equations) (one : (k : ℕ) (laws : List Equation) (p : Equation) (n m : ℕ) → IsTheList k laws → IsNumberOf laws p n → IsNumberOf laws p m → n ≡ m) where
  -- what has another number than the goal isn't the same law
  pub other_law : (p : Equation) (goal : ℕ) (found : Numbered) → IsSome (law_numbered l.equations goal) → IsNumberAnswer l p found → (found ≡ Is goal → ⊥) → Same p (law_at l.equations goal) → ⊥
  other_law p goal (Is n) h k a s = a (ap Is (one l.order l.equations p n goal is k.2 (record { entry = law_at l.equations goal; stands = listed_law l.equations goal h; same = s })))
  other_law p goal Trivial h k a s = none_same p k.1.0 k.1.1 (law_at l.equations goal) (Listed-entry l.order l.equations goal (law_at l.equations goal) is (listed_law l.equations goal h)) s
  other_law p goal (TooManyOps n) h k a s =
      let small = small_entry l.order l.equations goal (law_at l.equations goal) is (listed_law l.equations goal h) in
      let equal = same_ops p (law_at l.equations goal) s in
      let more = k.0 in
      absurd (omega arith)

pub same_law : (laws : List Equation) (p : Equation) (n : ℕ) → IsNumberOf laws p n → Same p (law_at laws n)
same_law laws p n x = subst (Same p) (let f : Some x.entry ≡ Some (law_at laws n) = sym x.stands ∙ listed_law laws n (subst (λ (o : Option Equation). IsSome o) (sym x.stands) refl) in cc) x.same
