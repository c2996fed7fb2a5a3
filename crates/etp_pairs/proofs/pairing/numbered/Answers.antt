use Rattle.std.proofs.Common.{◌≡◌, ℕ, None, ap}
use Rattle.etp_match.specs.Bindings.{partial_of}
use Rattle.etp_pairs.proofs.Names.{room_at_second, are_numbered}
use Rattle.etp_pairs.proofs.pairing.numbered.Goals as goal

pub note-requires-2-clause-room : goal.note-requires-2-clause-room
note-requires-2-clause-room c =
    let none : (v : ℕ) → (partial_of c.in_ok-names.names).value v ≡ None = λ v. ap (λ xs. (partial_of xs).value v) c.in_ok-names.ensures in
    room_at_second (partial_of c.in_ok-names.names) (partial_of c.note.new.names) _ _ _ _ none c.requires c.in_ok-count.ensures

pub returns : goal.returns
returns c =
    let none : (v : ℕ) → (partial_of c.in_ok-names.names).value v ≡ None = λ v. ap (λ xs. (partial_of xs).value v) c.in_ok-names.ensures in
    are_numbered (partial_of c.in_ok-names.names) (partial_of c.note.new.names) (partial_of c.note-2.new.names) _ _ _ _ none c.requires c.in_ok-count.ensures c.in_ok-note.ensures _ _ c.in_ok-apply.ensures c.in_ok-apply-2.ensures
