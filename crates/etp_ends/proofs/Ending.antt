-- What is left of the statuses of a session that nothing outside ends early.
use Rattle.std.proofs.Common.{◌≡◌, ◌≢◌, ℕ, zero, suc, ◌≤◌, ◌⊎◌, inl, inr, List, Bool, true, false, Some, Option, refl, sym, ◌∙◌, subst, arith}
use Rattle.std.specs.Prelude.{IfSome}
use Rattle.etp_serving.specs.Streams.{Streams}
use Rattle.etp_reply.specs.Shelves.{known}
use Rattle.etp_serving.specs.Protocols.{Protocol, ledger_protocol}
use Rattle.etp_serving.specs.Sessions.{IsSession, IsWholeSession}
use Rattle.etp_serving.specs.SessionEnds.{SessionEnds, EndsAtFault, EndsAtName, EndsPastLimit, EndsAtLong}
use Rattle.etp_serving.specs.Ends.{EndsWell}
use Rattle.etp_ends.specs.Undisturbed.{IsUndisturbed, status_for}

abbrev pub IsEnd : ℕ → Type 0
IsEnd status = (status ≡ 0) ⊎ ((status ≡ 1) ⊎ (status ≡ 5))

pick : (n : ℕ) → n ≤ 6 → n ≢ 2 → (n ≡ 3 → ⊥) → (n ≡ 4 → ⊥) → (n ≡ 6 → ⊥) → IsEnd n
pick zero few a b c d = inl refl
pick (suc zero) few a b c d = inr (inl refl)
pick (suc (suc zero)) few a b c d = absurd (a refl)
pick (suc (suc (suc zero))) few a b c d = absurd (b refl)
pick (suc (suc (suc (suc zero)))) few a b c d = absurd (c refl)
pick (suc (suc (suc (suc (suc zero))))) few a b c d = inr (inr refl)
pick (suc (suc (suc (suc (suc (suc zero)))))) few a b c d = absurd (d refl)
pick (suc (suc (suc (suc (suc (suc (suc n))))))) few a b c d = absurd (omega (arith, few))

no_fault : {H : Type 0} (p : Protocol) (old new : Streams H) → IsUndisturbed p old new
    → EndsAtFault p old new ⊎ EndsAtName p old new → ⊥
no_fault p old new u (inl e) = u.source_reads e.0
no_fault p old new u (inr e) = u.shelf_reads e.0

none_passes : {H : Type 0} (p : Protocol) (old new : Streams H) → IsUndisturbed p old new
    → EndsPastLimit p old new ⊎ EndsAtLong p old new → ⊥
none_passes p old new u (inl e) = u.source_within e.0
none_passes p old new u (inr e) = u.names_within ((e.name, e.long), e.risen)

-- the end of the session, or want of memory
pub ends : {H : Type 0} (p : Protocol) (old new : Streams H) (status : ℕ) → SessionEnds p old new status
    → IsUndisturbed p old new → IsEnd status
ends p old new status s u =
    pick status s.statuses.0 s.statuses.1
    (λ e. no_fault p old new u (s.read e))
    (λ e. u.sink_writes (s.write e).0)
    (λ e. none_passes p old new u (s.too_much e))

-- a session over these bytes has one text
abbrev pub HasOneText : Protocol → List ℕ → Type 0
HasOneText p bytes = (text other : List ℕ) (refused also : Bool) → IsSession p bytes text refused
    → IsSession p bytes other also → (text ≡ other) × (refused ≡ also)

-- whether it has a refusal line
said : {H : Type 0} (p : Protocol) (old new : Streams H) (bytes text : List ℕ) (refused also : Bool)
    → HasOneText p bytes → old.source.left ≡ Some bytes → IsSession p bytes text refused
    → EndsWell p old.source.left new.source.left old.sink.took new.sink.took new.source.last also
    → also ≡ refused
said p old new bytes text refused also one tells is well =
    let whole : IsWholeSession p bytes well.writes.text also =
    subst (λ (o : Option (List ℕ)). IfSome o (λ bytes. IsWholeSession p bytes well.writes.text also)) tells well.writes.session in
    (one well.writes.text text also refused whole.session is).1

pub told : {H : Type 0} (p : Protocol) (old new : Streams H) (status : ℕ) (bytes text : List ℕ) (refused : Bool)
    → HasOneText p bytes → old.source.left ≡ Some bytes → IsSession p bytes text refused
    → SessionEnds p old new status → IsUndisturbed p old new
    → (status ≡ 5) ⊎ (status ≡ status_for refused)
told p old new status bytes text refused one tells is s u = go (ends p old new status s u)
  where
    go : IsEnd status → (status ≡ 5) ⊎ (status ≡ status_for refused)
    go (inl e) = inr (subst (λ (b : Bool). status ≡ status_for b) (said p old new bytes text refused false one tells is (s.well e)) e)
    go (inr (inl e)) = inr (subst (λ (b : Bool). status ≡ status_for b) (said p old new bytes text refused true one tells is (s.refused e)) e)
    go (inr (inr e)) = inl e

-- the same over what the shelf is known to keep
pub told_of : {H : Type 0} (limit : ℕ) (keeps : Option (List ℕ → Option (List ℕ))) (kept : List ℕ → Option (List ℕ))
    (old new : Streams H) (status : ℕ) (bytes text : List ℕ) (refused : Bool)
    → HasOneText (ledger_protocol (known limit (Some kept))) bytes → old.source.left ≡ Some bytes → keeps ≡ Some kept
    → IsSession (ledger_protocol (known limit (Some kept))) bytes text refused
    → SessionEnds (ledger_protocol (known limit keeps)) old new status
    → IsUndisturbed (ledger_protocol (known limit keeps)) old new
    → (status ≡ 5) ⊎ (status ≡ status_for refused)
told_of limit keeps kept old new status bytes text refused one tells e is s u =
    told (ledger_protocol (known limit (Some kept))) old new status bytes text refused one tells is
    (subst (λ (k : Option (List ℕ → Option (List ℕ))). SessionEnds (ledger_protocol (known limit k)) old new status) e s)
    (subst (λ (k : Option (List ℕ → Option (List ℕ))). IsUndisturbed (ledger_protocol (known limit k)) old new) e u)
