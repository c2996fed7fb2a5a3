-- The entries of a table have one first wrong one, and none where all are below the size.
use Rattle.std.proofs.Common.{◌≡◌, ℕ, ◌+◌, ◌*◌, ◌<◌, ◌≤◌, ◌⊎◌, inl, inr, List, slice_get, sym, ◌∙◌, ap, subst, arith}
use Rattle.std.proofs.lemmas.Bool.{cases_order}
use Rattle.std.proofs.lemmas.List.Elements.{All-get_or}
use Rattle.std.proofs.lemmas.Nat.{same_from_place}
use Rattle.std.proofs.lemmas.Option.{slice_get_within, get_or_from_slice_get, same_Some}
use Rattle.etp_table.specs.Tables.{Table, IsTable}
use Rattle.etp_table.specs.Entries.{IsFirstWrong}
use Rattle.etp_table.specs.declared.refusal.TableRefusal.{TableRefusal}
use Rattle.etp_table.specs.declared.refusal.TableRefusal.TheVariants.{TooManyAssignments, HoldsFails, FailsHolds, Entry, NoMemory}

pub one_wrong_entry : (n : ℕ) (entries : List ℕ) (r s : TableRefusal) → 1 ≤ n → IsFirstWrong n entries r → IsFirstWrong n entries s → r ≡ s
one_wrong_entry n entries (Entry row column value) (Entry row' column' value') some p q =
    one (cases_order (row * n + column) (row' * n + column'))
  where
    one : (row * n + column ≡ row' * n + column') ⊎ ((row * n + column < row' * n + column') ⊎ (row' * n + column' < row * n + column)) → Entry row column value ≡ Entry row' column' value'
    one (inl k) =
        let place = same_from_place row column row' column' n p.0 q.0 k in
        let a : row ≡ row' = place.0 in
        let b : column ≡ column' = place.1 in
        let c : value ≡ value' = same_Some value value' (sym p.1 ∙ ap (slice_get entries) k ∙ q.1) in
        cc
    one (inr (inl k)) = absurd (omega (arith, p.2, q.3 (row * n + column) value k p.1))
    one (inr (inr k)) = absurd (omega (arith, q.2, p.3 (row' * n + column') value' k q.1))
one_wrong_entry n entries (Entry row column value) (HoldsFails law point left right) some p q = absurd q
one_wrong_entry n entries (Entry row column value) (FailsHolds law looked_at) some p q = absurd q
one_wrong_entry n entries (Entry row column value) (TooManyAssignments law size k) some p q = absurd q
one_wrong_entry n entries (Entry row column value) NoMemory some p q = absurd q
one_wrong_entry n entries (HoldsFails law point left right) s some p q = absurd p
one_wrong_entry n entries (FailsHolds law looked_at) s some p q = absurd p
one_wrong_entry n entries (TooManyAssignments law size k) s some p q = absurd p
one_wrong_entry n entries NoMemory s some p q = absurd p

pub entries_or_wrong : (t : Table) (r : TableRefusal) → IsTable t → ¬ IsFirstWrong t.size t.entries r
entries_or_wrong t (Entry row column value) h p =
    let place = row * t.size + column in
    let small : value < t.size = subst (λ x. x < t.size) (get_or_from_slice_get t.entries place value value p.1) (All-get_or (λ x. x < t.size) t.entries place value (slice_get_within t.entries place value p.1) h.below) in
    omega (arith, small, p.2)
entries_or_wrong t (HoldsFails law point left right) h p = p
entries_or_wrong t (FailsHolds law looked_at) h p = p
entries_or_wrong t (TooManyAssignments law size k) h p = p
entries_or_wrong t NoMemory h p = p
