-- What stands in a session stays or changes with its files; a session opens one list.
use Rattle.std.proofs.Common.{◌≡◌, ℕ, suc, ◌-◌, ◌<◌, List, [], ◌∷◌, length, slice_index, refl, sym, ◌∙◌, ap, subst, Option, Some, arith}
use Rattle.etp_theory.specs.Trees.{Equation, law_dual}
use Rattle.etp_theory.specs.LawNumbers.{dual_number}
use Rattle.etp_laws.specs.Listing.{IsTheList}
use Rattle.etp_laws.specs.LawLists.{LawList, IsNumberOf, AreDuals, IsDualOf}
use Rattle.etp_laws.proofs.DualNumbers.{one_number_of}
use Rattle.etp_laws.proofs.Unique.{IsTheList-unique}
use Rattle.etp_ledger.specs.Files.{File}
use Rattle.etp_desk.specs.States as States
use Rattle.etp_desk.specs.States.{Opens}
use Rattle.etp_desk.specs.Desks.{Agrees, Leaves}
use Rattle.etp_desk.specs.declared.opened.Opened.{Opened}

-- nothing changes
pub kept : (o : Opened) → Agrees o → Leaves o o o.ledger.files
kept o a = record { agrees = a; same_laws = refl; files_are = refl }

-- the ledger has other files, or the same ones
pub leaves : (o p : Opened) → Agrees o → p.laws ≡ o.laws → p.ledger.order ≡ o.ledger.order → p.ledger.closure.duals ≡ o.ledger.closure.duals → Leaves o p p.ledger.files
leaves o p a l e f = record {
  agrees = record {
    list = subst (λ (k : LawList). IsTheList k.order k.equations) (sym l) a.list;
    same_order = e ∙ a.same_order ∙ ap (λ (k : LawList). k.order) (sym l);
    same_duals = f ∙ a.same_duals ∙ ap (λ (k : LawList). k.duals) (sym l);
    same_size = ap (λ (k : List ℕ). length k) f ∙ a.same_size ∙ ap (λ (k : LawList). length k.equations) (sym l);
  };
  same_laws = l;
  files_are = refl;
}

abbrev opened_by : ℕ → List Equation → List ℕ → List File → States.Opened
opened_by k laws duals files = record { laws = record { order = k; equations = laws; duals = duals }; files = files }

-- the duals of a list are one list
same-duals : (xs ys : List ℕ) → length xs ≡ length ys → ((i : ℕ) → i < length xs → slice_index xs i ≡ slice_index ys i) → xs ≡ ys
same-duals [] [] e h = refl
same-duals [] (y ∷ ys) e h = absurd (omega (arith, e))
same-duals (x ∷ xs) [] e h = absurd (omega (arith, e))
same-duals (x ∷ xs) (y ∷ ys) e h =
    let head : x ≡ y = h 0 (omega arith) in
    let rest : xs ≡ ys = same-duals xs ys (omega (arith, e)) (λ i l. h (suc i) (omega (arith, l))) in
    rw (head, rest) refl

same-law : {p q : Equation} {o : Option Equation} → o ≡ Some p → o ≡ Some q → p ≡ q
same-law {p} {q} e h = let x : Some p ≡ Some q = sym e ∙ h in cc

one-dual : (k : ℕ) (laws : List Equation) (n a b : ℕ) → IsTheList k laws → IsDualOf laws n a → IsDualOf laws n b → a ≡ b
one-dual k laws n a b l h i =
    let law : i.law ≡ h.law = same-law i.stands h.stands in
    one_number_of k laws (law_dual h.law) a b l h.number (subst (λ (p : Equation). IsNumberOf laws (law_dual p) b) law i.number)

one-duals : (k : ℕ) (laws : List Equation) (ds es : List ℕ) → IsTheList k laws → AreDuals laws ds → AreDuals laws es → ds ≡ es
one-duals k laws ds es l a b =
    same-duals ds es (a.long ∙ sym b.long) (λ i h.
    let step : suc i - 1 ≡ i = omega arith in
    let one = one-dual k laws (suc i) (dual_number ds (suc i)) (dual_number es (suc i)) l (a.each (suc i) (omega arith) (omega (arith, h, a.long))) (b.each (suc i) (omega arith) (omega (arith, h, a.long))) in
    rw step at one)

-- a session opens one list
pub opens-one : (k : ℕ) (o p : States.Opened) → Opens k o → Opens k p → o ≡ p
opens-one k o p a b =
    let laws : o.laws.equations ≡ p.laws.equations = IsTheList-unique k o.laws.equations p.laws.equations a.list b.list in
    let orders : o.laws.order ≡ p.laws.order = a.order_is ∙ sym b.order_is in
    let duals : o.laws.duals ≡ p.laws.duals = one-duals k o.laws.equations o.laws.duals p.laws.duals a.list a.dual_numbers (rw laws b.dual_numbers) in
    let none : o.files ≡ p.files = a.no_files ∙ sym b.no_files in
    let whole : opened_by o.laws.order o.laws.equations o.laws.duals o.files ≡ opened_by p.laws.order p.laws.equations p.laws.duals p.files = rw (orders, laws, duals, none) refl in
    whole
