-- A body about finite magmas has one verdict.
use Rattle.std.proofs.Common.{◌≡◌, ◌≤◌, ℕ, List, None, true, false, ap, sym, ◌∙◌, inl, inr, arith}
use Rattle.std.specs.Prelude.{IsSome}
use Rattle.etp_laws.specs.Listing.{IsTheList}
use Rattle.etp_laws.specs.LawLists.{LawList}
use Rattle.etp_theory.specs.Trees.{Equation}
use Rattle.etp_table.specs.Tables.{Table}
use Rattle.etp_table.specs.Entries.{IsFirstWrong}
use Rattle.etp_table.specs.declared.refusal.TableRefusal.{TableRefusal}
use Rattle.etp_table.specs.declared.refusal.TableRefusal.TheVariants.{Entry, TooManyAssignments, HoldsFails, FailsHolds, NoMemory as NoRoom}
use Rattle.etp_table.proofs.Theorems.{verdict_theorems}
use Rattle.etp_linear.specs.Magmas.{LinearMagma}
use Rattle.etp_linear.specs.declared.refusal.LinearRefusal.{LinearRefusal}
use Rattle.etp_linear.proofs.Meaning.{not_both}
use Rattle.etp_linear.proofs.Offences as Linears
use Rattle.etp_lines.specs.Claims.{Claims}
use Rattle.etp_items.specs.Bodies.{Model, table, linear, matrix, rules}
use Rattle.etp_replay.specs.Validity.{law_at}
use Rattle.etp_finite_body.specs.FiniteBodies.{FiniteFileBody, proof, model}
use Rattle.etp_finite_check.specs.FiniteChecks.{IsRightModel, IsRightBody}
use Rattle.etp_finite_check.specs.FiniteRefusals.{replay_refused, IsTableOffence, IsLinearOffence, IsModelOffence, IsBodyOffence}
use Rattle.etp_finite_check.specs.declared.refusal.FiniteRefusal.{FiniteRefusal}
use Rattle.etp_finite_check.specs.declared.refusal.FiniteRefusal.TheVariants as Program
use Rattle.etp_finite_check.specs.declared.refusal.FiniteRefusal.TheVariants.{NoMemory}
use Rattle.etp_finite.specs.Files.{File, body_named}
use Rattle.etp_finite.specs.Accepting.{IsAccepted}
use Rattle.etp_finite.specs.Refusals.{IsFileRefused}
use Rattle.etp_finite_verdicts.proofs.OneProof.{one_refusal, valid_or_refused}

some_size : (n : ℕ) (entries : List ℕ) (r : TableRefusal) → IsFirstWrong n entries r → 1 ≤ n
some_size n entries (Entry row column value) h = omega (arith, h.0)
some_size n entries (TooManyAssignments law size variables) h = absurd h
some_size n entries (HoldsFails law point left right) h = absurd h
some_size n entries (FailsHolds law looked_at) h = absurd h
some_size n entries NoRoom h = absurd h

one_table : (laws : List Equation) (t : Table) (claims : Claims) (r s : TableRefusal) → IsTableOffence laws t claims r → IsTableOffence laws t claims s → r ≡ s
one_table laws t claims r s (inl x) (inl y) = verdict_theorems.one_wrong_entry t.size t.entries r s (some_size t.size t.entries r x) x y
one_table laws t claims r s (inl x) (inr y) = absurd (verdict_theorems.entries_or_wrong t r y.0 x)
one_table laws t claims r s (inr x) (inl y) = absurd (verdict_theorems.entries_or_wrong t s x.0 y)
one_table laws t claims r s (inr x) (inr y) = verdict_theorems.one_offence laws t claims.holds claims.fails r s x.1 y.1

one_linear : (laws : List Equation) (l : LinearMagma) (claims : Claims) (r s : LinearRefusal) → IsLinearOffence laws l claims r → IsLinearOffence laws l claims s → r ≡ s
one_linear laws l claims r s (inl x) (inl y) = Linears.one_out_of_range l r s x y
one_linear laws l claims r s (inl x) (inr y) = absurd (Linears.in_or_out l r y.0 x)
one_linear laws l claims r s (inr x) (inl y) = absurd (Linears.in_or_out l s x.0 y)
one_linear laws l claims r s (inr x) (inr y) = Linears.one_offence laws l claims.holds claims.fails r s x.1 y.1

one_model_offence : (laws : List Equation) (m : Model) (claims : Claims) (r s : FiniteRefusal) → IsModelOffence laws m claims r → IsModelOffence laws m claims s → r ≡ s
one_model_offence laws (table size entries) claims r s (t, is, x) (u, also, y) =
    is ∙ ap Program.Table (one_table laws (record { size = size; entries = entries }) claims t u x y) ∙ sym also
one_model_offence laws (linear l) claims r s (t, is, x) (u, also, y) = is ∙ ap Program.Linear (one_linear laws l claims t u x y) ∙ sym also
one_model_offence laws (matrix g) claims r s x y = absurd x
one_model_offence laws (rules w rs) claims r s x y = absurd x

-- a magma that is right has no offence
right_model : (laws : List Equation) (m : Model) (claims : Claims) (r : FiniteRefusal) → IsRightModel laws m claims → IsModelOffence laws m claims r → ⊥
right_model laws (table size entries) claims r right (t, is, inl wrong) = verdict_theorems.entries_or_wrong (record { size = size; entries = entries }) t right.0 wrong
right_model laws (table size entries) claims r right (t, is, inr offence) =
    verdict_theorems.judged_or_refused laws (record { size = size; entries = entries }) claims.holds claims.fails t right.1 offence.1
right_model laws (linear l) claims r right (t, is, inl out) = Linears.in_or_out l t right.0 out
right_model laws (linear l) claims r right (t, is, inr offence) = not_both laws l claims.holds claims.fails t right.1 offence.1
right_model laws (matrix g) claims r right x = x
right_model laws (rules w rs) claims r right x = x

pub one_offence : (l : LawList) (body : FiniteFileBody) (r s : FiniteRefusal) → IsTheList l.order l.equations → IsBodyOffence l body r → IsBodyOffence l body s → r ≡ s
one_offence l (proof p) r s list (t, is, x) (u, also, y) =
    is ∙ ap replay_refused (one_refusal l (law_at l.equations p.hypothesis) (law_at l.equations p.goal) p.lemmas t u list x y) ∙ sym also
one_offence l (model m claims) r s list x y = one_model_offence l.equations m claims r s x y

pub right_or_refused : (l : LawList) (body : FiniteFileBody) (r : FiniteRefusal) → IsRightBody l.equations body → IsBodyOffence l body r → ⊥
right_or_refused l (proof p) r right (t, is, offence) =
    valid_or_refused l (law_at l.equations p.hypothesis) (law_at l.equations p.goal) p.lemmas t offence right
right_or_refused l (model m claims) r right offence = right_model l.equations m claims r right offence

pub accepted : (l : LawList) (files : List File) (name : List ℕ) (body : FiniteFileBody) (r : FiniteRefusal) → IsAccepted l.equations files name body
    → IsFileRefused l files name body r → r ≡ NoMemory
accepted l files name body r a (inl (is, stands)) =
    let gone : IsSome (body_named name files) = stands in
    let free : body_named name files ≡ None = a.free in
    let bad : false ≡ true = rw free at gone in
    absurd (cc)
accepted l files name body r a (inr (inl e)) = e
accepted l files name body r a (inr (inr refused)) = absurd (right_or_refused l body r a.valid.right refused.1)
