use Rattle.std.proofs.Common.{◌≡◌, ◌≢◌, ◌<◌, ◌++◌, [], ◌∷◌, length, List, ℕ, Contains, true, false, is_some, inl, inr, refl, sym, ap, ◌∙◌, subst, arith, length-append}
use Rattle.std.proofs.lemmas.List.Elements.{All-push}
use Rattle.std.specs.List.{AllPairs}
use Rattle.std.specs.Map.{lookup}
use Rattle.std.specs.Str.{bytes_eq}
use Rattle.etp_theory.specs.Trees.{Tree}
use Rattle.etp_term.specs.Terms.{tree_of}
use Rattle.indexmap.proofs.CallerLemmas.{insert_entry-new}
use Rattle.etp_search.specs.Sets.{polish, terms_of, AreKept}
use Rattle.etp_search.proofs.Kept.{found, unfound, none_of, terms_more, different_more}
use Rattle.etp_search.proofs.terms.Terms.add.Goals as goal

pub returns-then-contains_key : goal.returns-then-contains_key
returns-then-contains_key c =
    let t = tree_of c.args.term in
    let entries = c.self.inside.kept.entries in
    let key : c.as_slice.result.now ≡ polish t =
    c.as_slice.ensures.value ∙ c.in_ok-append_word.ensures ∙ ap (λ (xs : List ℕ). xs ++ polish t) c.in_ok-word.ensures.items in
    let there : is_some (lookup (λ k. bytes_eq (polish t) k.items) entries) ≡ true =
    subst (λ (w : List ℕ). is_some (lookup (λ k. bytes_eq w k.items) entries) ≡ true) key (sym c.contains_key.ensures ∙ c.if-contains_key.true) in
    inl (refl, subst (λ (ts : List Tree). Contains ts t) c.self.view_is (found t entries c.self.invariant.0 there))

new_word : (c : goal.Joined-branch-4) → c.append_word.new.word.items ≡ polish (tree_of c.args.term)
new_word c = c.in_ok-append_word.ensures ∙ ap (λ (xs : List ℕ). xs ++ polish (tree_of c.args.term)) c.in_ok-word.ensures.items

missing : (c : goal.Joined-branch-4) → is_some (lookup (λ k. bytes_eq (polish (tree_of c.args.term)) k.items) c.self.inside.kept.entries) ≡ false
missing c =
    subst (λ (w : List ℕ). is_some (lookup (λ k. bytes_eq w k.items) c.self.inside.kept.entries) ≡ false) (c.as_slice.ensures.value ∙ new_word c) (sym c.contains_key.ensures ∙ c.if-contains_key.false)

entries_now : (c : goal.Joined-branch-4) → c.insert.new.self.entries ≡ c.self.inside.kept.entries ++ (c.append_word.new.word, c.args.term) ∷ []
entries_now c =
    c.in_ok-insert.ensures.entries
    ∙ insert_entry-new (λ j k. bytes_eq j.items k.items) c.self.inside.kept c.append_word.new.word c.args.term
    (none_of _ (subst (λ (w : List ℕ). is_some (lookup (λ k. bytes_eq w k.items) c.self.inside.kept.entries) ≡ false) (sym (new_word c)) (missing c)))

few : (c : goal.Joined-branch-4) → length c.insert.new.self.entries < 4294967296
few c =
    let more = ap length (entries_now c) ∙ length-append c.self.inside.kept.entries ((c.append_word.new.word, c.args.term) ∷ []) in
    let len = c.len.ensures.len in
    let room = c.if-len.false in
    omega (arith, more, len, room)

pub invariant_of-self-2 : goal.invariant_of-self-2
invariant_of-self-2 c = (
  subst AreKept (sym (entries_now c)) (All-push (λ entry. entry.0.items ≡ polish (tree_of entry.1)) c.self.inside.kept.entries (c.append_word.new.word, c.args.term) c.self.invariant.0 (new_word c)),
  few c,
  subst (λ (ts : List Tree). AllPairs (λ s u. s ≢ u) ts) (sym (ap terms_of (entries_now c) ∙ terms_more c.self.inside.kept.entries (c.append_word.new.word, c.args.term)))
      (different_more (terms_of c.self.inside.kept.entries) (tree_of c.args.term) c.self.invariant.2 (unfound (tree_of c.args.term) c.self.inside.kept.entries c.self.invariant.0 (missing c))),
)

pub returns : goal.returns
returns c =
    inr (
      ap terms_of (entries_now c) ∙ terms_more c.self.inside.kept.entries (c.append_word.new.word, c.args.term) ∙ ap (λ (ts : List Tree). ts ++ tree_of c.args.term ∷ []) c.self.view_is,
      λ h. unfound (tree_of c.args.term) c.self.inside.kept.entries c.self.invariant.0 (missing c) (subst (λ (ts : List Tree). Contains ts (tree_of c.args.term)) (sym c.self.view_is) h),
    )
