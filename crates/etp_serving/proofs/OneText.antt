-- A session has one text where each line has one reply and leaves one state, as the ledger's lines do.
use Rattle.std.proofs.Common.{◌≡◌, ℕ, List, [], ◌∷◌, refl, sym, ◌∙◌, subst, Option, Bool}
use Rattle.etp_io.specs.Texts.{LineText}
use Rattle.etp_reply.proofs.OneReply.{told, IsRightState, right_start, Replies-only, closes-only}
use Rattle.etp_serving.specs.Protocols.{Protocol, ledger_protocol}
use Rattle.etp_serving.specs.Sessions.{Item, Session, IsSession, items_of}

-- in the states that a session comes to, each line has one reply and leaves one state, and so at the end
pub record HasOneReply (p : Protocol) : Type 1 where
  pub IsRight : p.State → Type 0
  pub starts : IsRight p.first
  pub replies_only : (before : p.State) → IsRight before → (n : ℕ) (line : LineText) (r q : p.Reply) (f g : p.State)
      → p.Replies before n line r f → p.Replies before n line q g → (r ≡ q) × (f ≡ g) × IsRight f
  pub closes_only : (last : p.State) → IsRight last → (r q : p.Reply) → p.Closes last r → p.Closes last q → r ≡ q

-- a session has one text
pub Session-only : (p : Protocol) (o : HasOneReply p) (items : List Item) (first f g : p.State) (t u : List ℕ) (a b : Bool) → o.IsRight first
    → Session p first items t a f → Session p first items u b g → (t ≡ u) × (a ≡ b) × (f ≡ g) × o.IsRight f
Session-only p o [] first f g t u a b right h k = (h.0 ∙ sym k.0, h.1 ∙ sym k.1, h.2 ∙ sym k.2, subst o.IsRight (sym h.2) right)
Session-only p o (item ∷ items) first f g t u a b right h k =
    let one = o.replies_only first right item.number item.line h.0 k.0 h.1 k.1 h.4 k.4 in
    let there : Session p h.1 items k.2 k.3 g = subst (λ (m : p.State). Session p m items k.2 k.3 g) (sym one.1) k.5 in
    let rest = Session-only p o items h.1 f g h.2 k.2 h.3 k.3 one.2 h.5 there in (
      rw (h.6, k.6, one.0, rest.0) refl,
      rw (h.7, k.7, one.0, rest.1) refl,
      rest.2,
      rest.3,
    )

-- the whole text is one
pub one-text : (p : Protocol) (o : HasOneReply p) (bytes text other : List ℕ) (is_refused also : Bool)
    → IsSession p bytes text is_refused → IsSession p bytes other also → (text ≡ other) × (is_refused ≡ also)
one-text p o bytes text other is_refused also h k =
    let one = Session-only p o (items_of bytes) p.first h.last k.last h.front k.front h.some k.some o.starts h.session k.session in
    let there : p.Closes h.last k.reply = subst (λ (m : p.State). p.Closes m k.reply) (sym one.2) k.closes in
    let reply : h.reply ≡ k.reply = o.closes_only h.last one.3 h.reply k.reply h.closes there in (
      h.text_is ∙ rw (one.0, one.2, reply) (sym k.text_is),
      h.refused_is ∙ rw (one.1, reply) (sym k.refused_is),
    )

-- the ledger's lines have, over a shelf that tells what it keeps
pub ledger-one_reply : (limit : ℕ) (kept : List ℕ → Option (List ℕ)) → HasOneReply (ledger_protocol (told limit kept))
ledger-one_reply limit kept = record {
  IsRight = IsRightState;
  starts = right_start;
  replies_only = Replies-only limit kept;
  closes_only = closes-only;
}
