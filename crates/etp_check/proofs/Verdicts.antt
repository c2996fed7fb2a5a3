-- A body has one verdict.
use Rattle.std.proofs.Common.{◌≡◌, ◌≤◌, ℕ, List, map, ap, sym, ◌∙◌, inl, inr, arith}
use Rattle.etp_laws.specs.Listing.{IsTheList}
use Rattle.etp_laws.specs.LawLists.{LawList}
use Rattle.etp_theory.specs.Trees.{Equation}
use Rattle.etp_table.specs.Tables.{Table}
use Rattle.etp_table.specs.Entries.{IsFirstWrong}
use Rattle.etp_table.specs.declared.refusal.TableRefusal.{TableRefusal}
use Rattle.etp_table.specs.declared.refusal.TableRefusal.TheVariants.{Entry, TooManyAssignments, HoldsFails, FailsHolds, NoMemory as NoRoom}
use Rattle.etp_table.proofs.Theorems.{verdict_theorems}
use Rattle.etp_linear.specs.Magmas.{LinearMagma}
use Rattle.etp_linear.specs.declared.refusal.LinearRefusal.{LinearRefusal}
use Rattle.etp_linear.proofs.Meaning.{not_both}
use Rattle.etp_linear.proofs.Offences as Linears
use Rattle.etp_matrix.specs.Magmas.{MatrixMagma}
use Rattle.etp_matrix.specs.declared.refusal.MatrixRefusal.{MatrixRefusal}
use Rattle.etp_matrix.proofs.Meaning as Matrices
use Rattle.etp_matrix.proofs.Offences as MatrixOffences
use Rattle.etp_theory.specs.Weights.{Weight, AllDecrease}
use Rattle.etp_rules.specs.Deciding.{IsInRange, AreAllowed}
use Rattle.etp_rules.proofs.Refusals as Systems
use Rattle.etp_pairs.proofs.Unique as Overlapping
use Rattle.etp_canonical.proofs.Offences as Canonical
use Rattle.etp_lines.specs.Claims.{Claims}
use Rattle.etp_items.specs.Bodies.{FileBody, Model, table, linear, matrix, rules, proof, model}
use Rattle.etp_replay.specs.Validity.{law_at}
use Rattle.etp_replay.proofs.OneVerdict.{one_refusal, valid_or_refused}
use Rattle.etp_check.specs.Checks.{IsRightBody, IsRightModel}
use Rattle.etp_check.specs.Refusals.{IsTableOffence, IsLinearOffence, IsMatrixOffence, IsSystemOffence, not_allowed, not_joining, not_claimed, IsModelOffence, IsBodyOffence}
use Rattle.etp_check.specs.Claimed.{claim_refused}
use Rattle.etp_check.specs.declared.refusal.CheckRefusal.{CheckRefusal}
use Rattle.etp_check.specs.declared.refusal.CheckRefusal.TheVariants as Program
use Rattle.etp_check.specs.declared.refusal.CheckRefusal.TheVariants.{Replay, Linear, Matrix, Rules, Pairs}

some_size : (n : ℕ) (entries : List ℕ) (r : TableRefusal) → IsFirstWrong n entries r → 1 ≤ n
some_size n entries (Entry row column value) h = omega (arith, h.0)
some_size n entries (TooManyAssignments law size variables) h = absurd h
some_size n entries (HoldsFails law point left right) h = absurd h
some_size n entries (FailsHolds law looked_at) h = absurd h
some_size n entries NoRoom h = absurd h

one_table : (laws : List Equation) (t : Table) (claims : Claims) (r s : TableRefusal) → IsTableOffence laws t claims r → IsTableOffence laws t claims s → r ≡ s
one_table laws t claims r s (inl x) (inl y) = verdict_theorems.one_wrong_entry t.size t.entries r s (some_size t.size t.entries r x) x y
one_table laws t claims r s (inl x) (inr y) = absurd (verdict_theorems.entries_or_wrong t r y.0 x)
one_table laws t claims r s (inr x) (inl y) = absurd (verdict_theorems.entries_or_wrong t s x.0 y)
one_table laws t claims r s (inr x) (inr y) = verdict_theorems.one_offence laws t claims.holds claims.fails r s x.1 y.1

one_linear : (laws : List Equation) (l : LinearMagma) (claims : Claims) (r s : LinearRefusal) → IsLinearOffence laws l claims r → IsLinearOffence laws l claims s → r ≡ s
one_linear laws l claims r s (inl x) (inl y) = Linears.one_out_of_range l r s x y
one_linear laws l claims r s (inl x) (inr y) = absurd (Linears.in_or_out l r y.0 x)
one_linear laws l claims r s (inr x) (inl y) = absurd (Linears.in_or_out l s x.0 y)
one_linear laws l claims r s (inr x) (inr y) = Linears.one_offence laws l claims.holds claims.fails r s x.1 y.1

one_matrix : (laws : List Equation) (g : MatrixMagma) (claims : Claims) (r s : MatrixRefusal) → IsMatrixOffence laws g claims r → IsMatrixOffence laws g claims s → r ≡ s
one_matrix laws g claims r s (inl x) (inl y) = MatrixOffences.one_out_of_range g r s x y
one_matrix laws g claims r s (inl x) (inr y) = absurd (MatrixOffences.in_or_out g r y.0 x)
one_matrix laws g claims r s (inr x) (inl y) = absurd (MatrixOffences.in_or_out g s x.0 y)
one_matrix laws g claims r s (inr x) (inr y) = MatrixOffences.one_offence laws g claims.holds claims.fails r s x.1 y.1

all_decrease : (w : Weight) (rs : List Equation) → IsInRange w → AreAllowed w rs → AllDecrease w rs
all_decrease w rs range allowed = record {
  left_counts = omega (arith, range.left_low);
  right_counts = omega (arith, range.right_low);
  each = λ i e there. (allowed i e there).decreasing;
}

one_system : (laws : List Equation) (w : Weight) (rs : List Equation) (claims : Claims) (r s : CheckRefusal) → IsSystemOffence laws w rs claims r → IsSystemOffence laws w rs claims s → r ≡ s
one_system laws w rs claims r s (not_allowed t is x) (not_allowed u also y) = is ∙ ap Rules (Systems.one_refusal w rs t u x y) ∙ sym also
one_system laws w rs claims r s (not_allowed t is x) (not_joining u also some range allowed y) = absurd (Systems.never_both w rs t x range allowed)
one_system laws w rs claims r s (not_allowed t is x) (not_claimed u also magma y) = absurd (Systems.never_both w rs t x magma.in_range magma.allowed)
one_system laws w rs claims r s (not_joining t is some range allowed x) (not_allowed u also y) = absurd (Systems.never_both w rs u y range allowed)
one_system laws w rs claims r s (not_joining t is one range allowed x) (not_joining u also two low all y) =
    is ∙ ap Pairs (Overlapping.one_refusal w rs (all_decrease w rs range allowed) t u x y one two) ∙ sym also
one_system laws w rs claims r s (not_joining t is some range allowed x) (not_claimed u also magma y) = absurd (some (Overlapping.passes w rs t magma.convergent x))
one_system laws w rs claims r s (not_claimed t is magma x) (not_allowed u also y) = absurd (Systems.never_both w rs u y magma.in_range magma.allowed)
one_system laws w rs claims r s (not_claimed t is magma x) (not_joining u also some range allowed y) = absurd (some (Overlapping.passes w rs u magma.convergent y))
one_system laws w rs claims r s (not_claimed t is magma x) (not_claimed u also other y) =
    is ∙ ap claim_refused (Canonical.one_offence laws rs claims.holds claims.fails t u x y) ∙ sym also

-- a magma that is right has no offence
right_model : (laws : List Equation) (m : Model) (claims : Claims) (r : CheckRefusal) → IsRightModel laws m claims → ¬ IsModelOffence laws m claims r
right_model laws (table size entries) claims r right (t, is, inl wrong) = verdict_theorems.entries_or_wrong (record { size = size; entries = entries }) t right.0 wrong
right_model laws (table size entries) claims r right (t, is, inr offence) =
    verdict_theorems.judged_or_refused laws (record { size = size; entries = entries }) claims.holds claims.fails t right.1 offence.1
right_model laws (linear l) claims r right (t, is, inl out) = Linears.in_or_out l t right.0 out
right_model laws (linear l) claims r right (t, is, inr offence) = not_both laws l claims.holds claims.fails t right.1 offence.1
right_model laws (matrix g) claims r right (t, is, inl out) = MatrixOffences.in_or_out g t right.0 out
right_model laws (matrix g) claims r right (t, is, inr offence) = Matrices.not_both laws g claims.holds claims.fails t right.1 offence.1
right_model laws (rules w rs) claims r right (not_allowed t is refused) = Systems.never_both w rs t refused right.0.in_range right.0.allowed
right_model laws (rules w rs) claims r right (not_joining t is some range allowed refused) = some (Overlapping.passes w rs t right.0.convergent refused)
right_model laws (rules w rs) claims r right (not_claimed t is magma offence) = Canonical.not_both laws rs claims.holds claims.fails t right.1 offence

-- and any other has one
one_model_offence : (laws : List Equation) (m : Model) (claims : Claims) (r s : CheckRefusal) → IsModelOffence laws m claims r → IsModelOffence laws m claims s → r ≡ s
one_model_offence laws (table size entries) claims r s (t, is, x) (u, also, y) =
    is ∙ ap Program.Table (one_table laws (record { size = size; entries = entries }) claims t u x y) ∙ sym also
one_model_offence laws (linear l) claims r s (t, is, x) (u, also, y) = is ∙ ap Linear (one_linear laws l claims t u x y) ∙ sym also
one_model_offence laws (matrix g) claims r s (t, is, x) (u, also, y) = is ∙ ap Matrix (one_matrix laws g claims t u x y) ∙ sym also
one_model_offence laws (rules w rs) claims r s x y = one_system laws w rs claims r s x y

pub right_or_refused : (l : LawList) (body : FileBody) (cited : List ℕ) (r : CheckRefusal) → IsRightBody l.equations body cited → ¬ IsBodyOffence l body cited r
right_or_refused l (proof p) cited r right (t, is, offence) =
    valid_or_refused l (law_at l.equations p.hypothesis) (law_at l.equations p.goal) (map (law_at l.equations) cited) p.lemmas t offence right
right_or_refused l (model m claims) cited r right offence = right_model l.equations m claims r right offence

pub one_offence : (l : LawList) (body : FileBody) (cited : List ℕ) (r s : CheckRefusal) → IsTheList l.order l.equations → IsBodyOffence l body cited r → IsBodyOffence l body cited s → r ≡ s
one_offence l (proof p) cited r s list (t, is, x) (u, also, y) =
    is ∙ ap Replay (one_refusal l (law_at l.equations p.hypothesis) (law_at l.equations p.goal) (map (law_at l.equations) cited) p.lemmas t u list x y) ∙ sym also
one_offence l (model m claims) cited r s list x y = one_model_offence l.equations m claims r s x y
