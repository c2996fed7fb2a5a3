-- Sessions that grow by a line.
use Rattle.std.proofs.Common.{◌≡◌, ℕ, ◌+◌, List, [], ◌∷◌, ◌++◌, length, refl, sym, ◌∙◌, ap, subst, append_assoc, append-nil, add-zero, Bool, true, false, ◌||◌, arith}
use Rattle.etp_io.specs.Texts.{LineText}
use Rattle.etp_serving.specs.Protocols.{Protocol}
use Rattle.etp_serving.specs.Sessions.{Item, Session, items_from}

or_assoc : (a b c : Bool) → ((a || b) || c) ≡ (a || (b || c))
or_assoc true b c = refl
or_assoc false b c = refl

or-false : (a : Bool) → (a || false) ≡ a
or-false true = refl
or-false false = refl

pub items_from-append : (n : ℕ) (lines more : List LineText) → items_from n (lines ++ more) ≡ items_from n lines ++ items_from (n + length lines) more
items_from-append n [] more = ap (λ k. items_from k more) (sym (add-zero n))
items_from-append n (line ∷ lines) more =
    let e : n + 1 + length lines ≡ n + length (line ∷ lines) = omega arith in
    ap (λ l. record { number = n; line = line } ∷ l) (items_from-append (n + 1) lines more ∙ ap (λ k. items_from (n + 1) lines ++ items_from k more) e)

pub Session-then : (p : Protocol) (first middle last : p.State) (items : List Item) (item : Item) (text : List ℕ) (wrong : Bool) (reply : p.Reply)
    → Session p first items text wrong middle → p.Replies middle item.number item.line reply last
    → Session p first (items ++ item ∷ []) (text ++ p.reply_text (p.answered_line middle item.number) reply) (wrong || p.is_refusal reply) last
Session-then p first middle last [] item text wrong reply h k = (
  reply,
  last,
  [],
  false,
  subst (λ (before : p.State). p.Replies before item.number item.line reply last) h.2 k,
  (refl, refl, refl),
  rw h.0 (subst (λ (before : p.State). p.reply_text (p.answered_line middle item.number) reply ≡ p.reply_text (p.answered_line before item.number) reply ++ []) h.2 (sym (append-nil (p.reply_text (p.answered_line middle item.number) reply)))),
  rw h.1 (sym (or-false (p.is_refusal reply))),
)
Session-then p first middle last (before ∷ items) item text wrong reply h k = (
  h.0,
  h.1,
  h.2 ++ p.reply_text (p.answered_line middle item.number) reply,
  h.3 || p.is_refusal reply,
  h.4,
  Session-then p h.1 middle last items item h.2 h.3 reply h.5 k,
  rw h.6 (append_assoc (p.reply_text (p.answered_line first before.number) h.0) h.2 (p.reply_text (p.answered_line middle item.number) reply)),
  rw h.7 (or_assoc (p.is_refusal h.0) h.3 (p.is_refusal reply)),
)
