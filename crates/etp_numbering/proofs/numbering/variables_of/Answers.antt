use Rattle.std.proofs.Common.{List, ℕ, [], sym, subst, ap, ◌∙◌}
use Rattle.etp_theory.specs.Trees.{word_of}
use Rattle.etp_term.specs.Terms.{tree_of}
use Rattle.etp_laws.specs.Occurrences.{seen_all}
use Rattle.etp_numbering.specs.Numbering.{AreApart}
use Rattle.etp_numbering.proofs.NumberingLemmas.{none_apart, few_apart, seen_all-append}
use Rattle.etp_numbering.proofs.numbering.variables_of.Goals as goal

pub note_all-requires : goal.note_all-requires
note_all-requires c = subst AreApart (sym c.new-seen.ensures.items) none_apart

pub returns-clause-variables : goal.returns-clause-variables
returns-clause-variables c =
    let first = word_of (tree_of c.args.first.now) in
    let second = word_of (tree_of c.args.second.now) in
    c.in_ok-note_all-2.ensures.seen
    ∙ ap (λ (s : List ℕ). seen_all s second) (c.in_ok-note_all.ensures.seen ∙ ap (λ (s : List ℕ). seen_all s first) c.new-seen.ensures.items)
    ∙ sym (seen_all-append [] first second)

pub returns-clause-few : goal.returns-clause-few
returns-clause-few c = few_apart c.note_all-2.new.seen.items c.in_ok-note_all-2.ensures.apart
