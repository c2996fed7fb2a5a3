use Rattle.std.proofs.Common.{◌≡◌, sym, ap, ◌∙◌}
use Rattle.etp_theory.specs.Trees.{op, word_of}
use Rattle.etp_term.specs.Terms.{tree_of}
use Rattle.etp_term.proofs.Opened.{tree_of-op}
use Rattle.etp_laws.specs.Occurrences.{seen_all}
use Rattle.etp_numbering.proofs.Results.{OnOk-then}
use Rattle.etp_numbering.proofs.NumberingLemmas.{seen_all-append}
use Rattle.etp_numbering.proofs.numbering.+note_all.Goals as goal

pub returns-in_ok-note_all-in-Op-clause-seen : goal.returns-in_ok-note_all-in-Op-clause-seen
returns-in_ok-note_all-in-Op-clause-seen t c =
    let is : tree_of c.args.term.now ≡ op (tree_of c.get.result.now) (tree_of c.get-in-Op.result.now) =
    ap tree_of c.in-Op.is ∙ tree_of-op _ _ ∙ (λ i. op (tree_of (sym c.get.ensures i)) (tree_of (sym c.get-in-Op.ensures i))) in
    OnOk-then c.note_all-in-Op.result _ _ (λ h.
    h ∙ ap (λ s. seen_all s (word_of (tree_of c.get-in-Op.result.now))) c.in_ok-note_all-in-Op.ensures.seen
    ∙ sym (seen_all-append c.args.seen.now.items (word_of (tree_of c.get.result.now)) (word_of (tree_of c.get-in-Op.result.now)))
    ∙ ap (λ x. seen_all c.args.seen.now.items (word_of x)) (sym is)) c.note_all-in-Op.ensures.seen
