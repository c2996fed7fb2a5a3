-- Claims are judged right or have a first offence, and it is the only one.
use Rattle.std.proofs.Common.{◌≡◌, ℕ, ◌<◌, ◌⊎◌, inl, inr, All, List, Some, take, slice_get, sym, ◌∙◌, ap, subst}
use Rattle.std.proofs.lemmas.Bool.{cases_order}
use Rattle.std.proofs.lemmas.Option.{same_Some}
use Rattle.etp_laws.proofs.NumberLists.{at_place, before_place}
use Rattle.etp_theory.specs.Trees.{Equation}
use Rattle.etp_canonical.specs.Judgements.{LawHolds, LawFails, IsJudged, IsWhyNotHolding, IsWhyNotFailing, IsHoldsOffence, IsFailsOffence, IsFirstOffence, in_holds, in_fails, OrNoMemory}
use Rattle.etp_canonical.specs.declared.refusal.ClaimRefusal.{ClaimRefusal}
use Rattle.etp_canonical.proofs.Found.{held_or_not, failed_or_not, one_why_holding, one_why_failing}

same_number : (xs : List ℕ) (i j m n : ℕ) → i ≡ j → slice_get xs i ≡ Some m → slice_get xs j ≡ Some n → m ≡ n
same_number xs i j m n e h k = same_Some m n (sym h ∙ ap (slice_get xs) e ∙ k)

module _ (laws rules : List Equation) where
  module _ (holds : List ℕ) where
    -- a law that is refused where all before it hold

    pub holds_offence : (place n : ℕ) (r : ClaimRefusal) → slice_get holds place ≡ Some n → All (LawHolds laws rules) (take place holds) → OrNoMemory (IsWhyNotHolding laws rules n) r → OrNoMemory (IsHoldsOffence laws rules holds) r
    holds_offence place n r h all (inl e) = inl e
    holds_offence place n r h all (inr why) = inr (record { place = place; number = n; stands = h; before = all; why = why })

    holds_before : (r s : ClaimRefusal) (o : IsHoldsOffence laws rules holds r) (p : IsHoldsOffence laws rules holds s) → o.place < p.place → ⊥
    holds_before r s o p l = held_or_not laws rules o.number r (before_place (LawHolds laws rules) holds o.place p.place o.number l o.stands p.before) o.why

    one_holds : (r s : ClaimRefusal) → IsHoldsOffence laws rules holds r → IsHoldsOffence laws rules holds s → r ≡ s
    one_holds r s o p = by (cases_order o.place p.place)
      where
        by : (o.place ≡ p.place) ⊎ ((o.place < p.place) ⊎ (p.place < o.place)) → r ≡ s
        by (inl e) = one_why_holding laws rules p.number r s (subst (λ n. IsWhyNotHolding laws rules n r) (same_number holds o.place p.place o.number p.number e o.stands p.stands) o.why) p.why
        by (inr (inl l)) = absurd (holds_before r s o p l)
        by (inr (inr l)) = absurd (holds_before s r p o l)

    held_or_refused : (r : ClaimRefusal) → All (LawHolds laws rules) holds → IsHoldsOffence laws rules holds r → ⊥
    held_or_refused r all o = held_or_not laws rules o.number r (at_place (LawHolds laws rules) holds o.place o.number o.stands all) o.why

  module _ (fails : List ℕ) where
    pub fails_offence : (place n : ℕ) (r : ClaimRefusal) → slice_get fails place ≡ Some n → All (LawFails laws rules) (take place fails) → OrNoMemory (IsWhyNotFailing laws rules n) r → OrNoMemory (IsFailsOffence laws rules fails) r
    fails_offence place n r h all (inl e) = inl e
    fails_offence place n r h all (inr why) = inr (record { place = place; number = n; stands = h; before = all; why = why })

    fails_before : (r s : ClaimRefusal) (o : IsFailsOffence laws rules fails r) (p : IsFailsOffence laws rules fails s) → o.place < p.place → ⊥
    fails_before r s o p l = failed_or_not laws rules o.number r (before_place (LawFails laws rules) fails o.place p.place o.number l o.stands p.before) o.why

    one_fails : (r s : ClaimRefusal) → IsFailsOffence laws rules fails r → IsFailsOffence laws rules fails s → r ≡ s
    one_fails r s o p = by (cases_order o.place p.place)
      where
        by : (o.place ≡ p.place) ⊎ ((o.place < p.place) ⊎ (p.place < o.place)) → r ≡ s
        by (inl e) = one_why_failing laws rules p.number r s (subst (λ n. IsWhyNotFailing laws rules n r) (same_number fails o.place p.place o.number p.number e o.stands p.stands) o.why) p.why
        by (inr (inl l)) = absurd (fails_before r s o p l)
        by (inr (inr l)) = absurd (fails_before s r p o l)

    failed_or_refused : (r : ClaimRefusal) → All (LawFails laws rules) fails → IsFailsOffence laws rules fails r → ⊥
    failed_or_refused r all o = failed_or_not laws rules o.number r (at_place (LawFails laws rules) fails o.place o.number o.stands all) o.why

  module _ (holds fails : List ℕ) where
    pub from_holds : (r : ClaimRefusal) → OrNoMemory (IsHoldsOffence laws rules holds) r → OrNoMemory (IsFirstOffence laws rules holds fails) r
    from_holds r (inl e) = inl e
    from_holds r (inr o) = inr (in_holds o)

    pub from_fails : (r : ClaimRefusal) → All (LawHolds laws rules) holds → OrNoMemory (IsFailsOffence laws rules fails) r → OrNoMemory (IsFirstOffence laws rules holds fails) r
    from_fails r all (inl e) = inl e
    from_fails r all (inr o) = inr (in_fails all o)

    pub not_both : (r : ClaimRefusal) → IsJudged laws rules holds fails → IsFirstOffence laws rules holds fails r → ⊥
    not_both r judged (in_holds o) = held_or_refused holds r judged.holding o
    not_both r judged (in_fails all o) = failed_or_refused fails r judged.failing o

    pub one_offence : (r s : ClaimRefusal) → IsFirstOffence laws rules holds fails r → IsFirstOffence laws rules holds fails s → r ≡ s
    one_offence r s (in_holds o) (in_holds p) = one_holds holds r s o p
    one_offence r s (in_holds o) (in_fails all p) = absurd (held_or_refused holds r all o)
    one_offence r s (in_fails all o) (in_holds p) = absurd (held_or_refused holds s all p)
    one_offence r s (in_fails all o) (in_fails every p) = one_fails fails r s o p
