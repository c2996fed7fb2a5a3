use Rattle.std.proofs.Common.{[], sym, subst}
use Rattle.etp_laws.specs.Occurrences.{Grows}
use Rattle.etp_laws.proofs.LetterLemmas.{by_occurrence_both}
use Rattle.etp_laws.proofs.Occurrences.{Grows-by_occurrence_after}
use Rattle.etp_laws.proofs.letters.by_occurrence.Goals as goal

pub returns-clause-value : goal.returns-clause-value
returns-clause-value c =
    by_occurrence_both c.args.left.now c.args.right.now _ _ _ _ _ c.new-seen.ensures c.new-numbers.ensures c.append_by_occurrence.ensures.numbers c.append_by_occurrence.ensures.after c.append_by_occurrence-2.ensures.numbers

pub returns-clause-grows : goal.returns-clause-grows
returns-clause-grows c =
    let is = by_occurrence_both c.args.left.now c.args.right.now _ _ _ _ _ c.new-seen.ensures c.new-numbers.ensures c.append_by_occurrence.ensures.numbers c.append_by_occurrence.ensures.after c.append_by_occurrence-2.ensures.numbers in
    subst (Grows 0) (sym is) (Grows-by_occurrence_after _ [])
