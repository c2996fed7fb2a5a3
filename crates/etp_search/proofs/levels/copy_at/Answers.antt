use Rattle.std.proofs.Common.{Some, sym, ap, ◌∙◌}
use Rattle.etp_term.specs.Terms.{tree_of}
use Rattle.etp_search.proofs.Standing.{not_past}
use Rattle.etp_search.proofs.levels.copy_at.Goals as goal

pub unreachable-requires : goal.unreachable-requires
unreachable-requires c = not_past c.args.seen.now c.args.at c.requires (sym c.in_default.ensures)

pub returns : goal.returns
returns c = sym c.in-Some.ensures ∙ ap (λ t. Some (tree_of t)) (sym c.in_ok-copy.ensures)
