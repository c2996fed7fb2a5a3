use Rattle.std.proofs.Common.{◌≡◌, ◌≤◌, ◌+◌, ℕ, List, sym, ap, subst, ◌∙◌}
use Rattle.etp_theory.specs.Trees.{Tree, leaves, bound}
use Rattle.etp_term.specs.Terms.{tree_of}
use Rattle.etp_numbering.specs.Numbering.{variables_of, numbered_in}
use Rattle.etp_numbering.proofs.Few.{few}
use Rattle.etp_numbering.proofs.numbering.number_anew.Goals as goal

-- the term is numbered in the variables of both terms
below : (s t u x : Tree) (vs : List ℕ) → vs ≡ variables_of s t → x ≡ numbered_in vs u → bound x ≤ leaves s + leaves t
below s t u x vs e i = subst (λ y. bound y ≤ leaves s + leaves t) (sym (i ∙ ap (λ v. numbered_in v u) e)) (few s t u)

pub returns-clause-few : goal.returns-clause-few
returns-clause-few c =
    let s = tree_of c.args.first.now in
    let t = tree_of c.args.second.now in
    record {
      first = below s t s (tree_of c.in_ok-first.first) c.as_slice.result.now (c.as_slice.ensures.value ∙ c.in_ok-variables.ensures.variables) c.in_ok-first.ensures;
      second = below s t t (tree_of c.in_ok-second.second) c.as_slice-2.result.now (c.as_slice-2.ensures.value ∙ c.in_ok-variables.ensures.variables) c.in_ok-second.ensures;
    }
