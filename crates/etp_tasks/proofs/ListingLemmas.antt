-- The list of laws, written line by line.
use Rattle.std.proofs.Common.{◌≡◌, ℕ, zero, suc, ◌+◌, ◌-◌, ◌<◌, List, [], ◌∷◌, ◌++◌, length, take, Option, Some, refl, sym, ◌∙◌, ap, subst, append_assoc, append-nil, add-zero, arith, inl, inr}
use Rattle.std.specs.Prelude.{slice_get}
use Rattle.std.proofs.lemmas.Grind.{common_steps}
use Rattle.std.proofs.lemmas.Option.{slice_get_cases}
use Rattle.std.specs.Io.KnownBytes.{Appends}
use Rattle.etp_io.specs.Stream.{IsPrefix, AppendsPrefix}
use Rattle.etp_io.proofs.CallLemmas.{Appends-then, Appends-none, IsPrefix-none, IsPrefix-append, IsPrefix-all}
use Rattle.etp_theory.specs.Trees.{Equation}
use Rattle.etp_theory.specs.LawNumbers.{law_numbered}
use Rattle.etp_laws.proofs.Entries.{entry_after}
use Rattle.etp_show.specs.LawReplies.{law_line}
use Rattle.etp_tasks.specs.Listings.{laws_from, laws_text, MovesFront}

no_law : {X : Type 0} (i : ℕ) (p : Equation) → slice_get [] i ≡ Some p → X
no_law i p e = grind (arith, common_steps)

-- one more law
laws_from-next : (n i : ℕ) (laws : List Equation) (p : Equation) → slice_get laws i ≡ Some p → laws_from n (take (i + 1) laws) ≡ laws_from n (take i laws) ++ law_line (n + i) p
laws_from-next n i [] p e = no_law i p e
laws_from-next n zero (q ∷ laws) p e =
    let same : q ≡ p = cc in
    rw (same, add-zero) (append-nil (law_line n p))
laws_from-next n (suc i) (q ∷ laws) p e =
    let rest : laws_from (n + 1) (take (i + 1) laws) ≡ laws_from (n + 1) (take i laws) ++ law_line (n + 1 + i) p = laws_from-next (n + 1) i laws p e in
    let places : n + 1 + i ≡ n + suc i = omega arith in
    let more : suc i + 1 ≡ suc (i + 1) = omega arith in
    rw more (ap (λ (l : List ℕ). law_line n q ++ l) (rw places at rest) ∙ sym (append_assoc (law_line n q) (laws_from (n + 1) (take i laws)) (law_line (n + suc i) p)))

take-nil : (i : ℕ) → take {A = Equation} i [] ≡ []
take-nil zero = refl
take-nil (suc i) = refl

-- a part of the laws gives a prefix
laws_from-take : (n i : ℕ) (laws : List Equation) → IsPrefix (laws_from n (take i laws)) (laws_from n laws)
laws_from-take n i [] = rw (take-nil i) (IsPrefix-all [])
laws_from-take n zero (q ∷ laws) = IsPrefix-none _
laws_from-take n (suc i) (q ∷ laws) = IsPrefix-append (law_line n q) _ _ (laws_from-take (n + 1) i laws)

-- so many laws are in what was written and in the text to be written
pub record ListedSofar (took0 took : Option (List ℕ)) (laws : List Equation) (text : List ℕ) (count : ℕ) : Type 0 where
  pub done : List ℕ
  pub written : Appends took0 took done
  pub joined : done ++ text ≡ laws_from 1 (take count laws)

pub starts-listing : (took : Option (List ℕ)) (laws : List Equation) → ListedSofar took took laws [] 0
starts-listing took laws = record { done = []; written = Appends-none took; joined = refl }

-- a line joined the text
joined-next : (laws : List Equation) (done text text' : List ℕ) (n : ℕ) (p : Equation) → done ++ text ≡ laws_from 1 (take n laws) → law_numbered laws (n + 1) ≡ Some p → text' ≡ text ++ law_line (n + 1) p
    → done ++ text' ≡ laws_from 1 (take (n + 1) laws)
joined-next laws done text text' n p h e t =
    let less : n + 1 - 1 ≡ n = omega arith in
    let there : slice_get laws n ≡ Some p = rw less at (sym (entry_after laws (n + 1) (omega arith)) ∙ e) in
    let one : 1 + n ≡ n + 1 = omega arith in
    let grown : laws_from 1 (take (n + 1) laws) ≡ laws_from 1 (take n laws) ++ law_line (n + 1) p = rw one at (laws_from-next 1 n laws p there) in
    ap (λ (l : List ℕ). done ++ l) t ∙ (sym (append_assoc done text (law_line (n + 1) p)) ∙ (ap (λ (l : List ℕ). l ++ law_line (n + 1) p) h ∙ sym grown))

-- and a front of the text was written
pub listed-next : (took0 took took' : Option (List ℕ)) (laws : List Equation) (text text' text'' : List ℕ) (n : ℕ) (p : Equation)
    → ListedSofar took0 took laws text n → law_numbered laws (n + 1) ≡ Some p → text' ≡ text ++ law_line (n + 1) p → MovesFront text' text'' took took'
    → ListedSofar took0 took' laws text'' (n + 1)
listed-next took0 took took' laws text text' text'' n p h e t m = record {
  done = h.done ++ m.front;
  written = Appends-then took0 took took' h.done m.front h.written m.written;
  joined = append_assoc h.done m.front text'' ∙ (ap (λ (l : List ℕ). h.done ++ l) (sym m.joined) ∙ joined-next laws h.done text text' n p h.joined e t);
}

front-of : (done text whole : List ℕ) → IsPrefix (done ++ text) whole → IsPrefix done whole
front-of done text whole p = record { rest = text ++ p.rest; joined = p.joined ∙ append_assoc done text p.rest }

-- it ends between two lines
pub listing-ends : (took0 took : Option (List ℕ)) (laws : List Equation) (text : List ℕ) (n : ℕ) → ListedSofar took0 took laws text n → AppendsPrefix took0 took (laws_text laws)
listing-ends took0 took laws text n h = record {
  front = h.done;
  appended = h.written;
  begins = front-of h.done text (laws_text laws) (subst (λ (x : List ℕ). IsPrefix x (laws_text laws)) (sym h.joined) (laws_from-take 1 n laws));
}

-- the last of the text is cut
pub listing-cut_last : (took0 took took' : Option (List ℕ)) (laws : List Equation) (text : List ℕ) (n : ℕ)
    → ListedSofar took0 took laws text n → AppendsPrefix took took' text → AppendsPrefix took0 took' (laws_text laws)
listing-cut_last took0 took took' laws text n h a = record {
  front = h.done ++ a.front;
  appended = Appends-then took0 took took' h.done a.front h.written a.appended;
  begins = front-of (h.done ++ a.front) (a.begins.rest) (laws_text laws)
      (subst (λ (x : List ℕ). IsPrefix x (laws_text laws)) (sym h.joined ∙ (ap (λ (x : List ℕ). h.done ++ x) a.begins.joined ∙ sym (append_assoc h.done a.front a.begins.rest))) (laws_from-take 1 n laws));
}

-- it ends in the middle of the text
pub listing-cut : (took0 took took' : Option (List ℕ)) (laws : List Equation) (text text' : List ℕ) (n : ℕ) (p : Equation)
    → ListedSofar took0 took laws text n → law_numbered laws (n + 1) ≡ Some p → text' ≡ text ++ law_line (n + 1) p → AppendsPrefix took took' text'
    → AppendsPrefix took0 took' (laws_text laws)
listing-cut took0 took took' laws text text' n p h e t a =
    listing-cut_last took0 took took' laws text' (n + 1) (record { done = h.done; written = h.written; joined = joined-next laws h.done text text' n p h.joined e t }) a

-- there is a law of each number up to the count
pub some-law : (laws : List Equation) (n : ℕ) → n < length laws → (p : Equation) × (law_numbered laws (n + 1) ≡ Some p)
some-law laws n h =
    let less : n + 1 - 1 ≡ n = omega arith in
    let e : law_numbered laws (n + 1) ≡ slice_get laws n = entry_after laws (n + 1) (omega arith) ∙ ap (slice_get laws) less in
    elim ((slice_get_cases laws n).1) [ inl i ↦ (i.0, e ∙ i.2) | inr i ↦ absurd (omega (arith, h, i.0)) ]
