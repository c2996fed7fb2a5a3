use Rattle.std.proofs.Common.{◌≡◌, ◌+◌, ◌++◌, List, All, length, map, ℕ, subst, sym, ◌∙◌, ap, arith}
use Rattle.std.proofs.lemmas.List.{append-nil}
use Rattle.std.proofs.lemmas.Result.{on_ok_weaker}
use Rattle.etp_theory.specs.Trees.{shape_leaves}
use Rattle.etp_term.specs.Laws.{equation_of}
use Rattle.etp_laws.specs.Shapes.{shape_from, sides_from}
use Rattle.etp_laws.proofs.Blocks.{words_fit, shape_leaves-ops, laws_at-less, laws_at-equal, laws_at-greater}
use Rattle.etp_laws.proofs.listing.append_laws_at.Goals as goal

pub shape_cmp-requires-clause-mine : goal.shape_cmp-requires-clause-mine
shape_cmp-requires-clause-mine c = let a = shape_leaves-ops (shape_from c.args.sides.now.left) in let h = c.requires.short in omega arith

pub shape_cmp-requires-clause-theirs : goal.shape_cmp-requires-clause-theirs
shape_cmp-requires-clause-theirs c = let a = shape_leaves-ops (shape_from c.args.sides.now.right) in let h = c.requires.short in omega arith

pub append_all-requires : goal.append_all-requires
append_all-requires c =
    let n : ℕ = shape_leaves (shape_from c.args.sides.now.left) + shape_leaves (shape_from c.args.sides.now.right) in
    subst (λ (ws : List (List ℕ)). All (λ w. length w ≡ n) ws) (sym c.requires.words) (words_fit n)

pub append_kept-requires-clause-fit : goal.append_kept-requires-clause-fit
append_kept-requires-clause-fit c =
    let n : ℕ = shape_leaves (shape_from c.args.sides.now.left) + shape_leaves (shape_from c.args.sides.now.right) in
    subst (λ (ws : List (List ℕ)). All (λ w. length w ≡ n) ws) (sym c.requires.words) (words_fit n)

pub returns-in-Less : goal.returns-in-Less
returns-in-Less c =
    let all = laws_at-less (sides_from c.args.sides.now) (sym c.shape_cmp.ensures ∙ c.in-Less.is) in
    let w = c.requires.words in
    on_ok_weaker c.append_all.result (λ e. cc) c.append_all.ensures

pub returns-in-Equal : goal.returns-in-Equal
returns-in-Equal c =
    let all = laws_at-equal (sides_from c.args.sides.now) (sym c.shape_cmp.ensures ∙ c.in-Equal.is) in
    let w = c.requires.words in
    on_ok_weaker c.append_kept.result (λ e. cc) c.append_kept.ensures

pub returns-in-Greater : goal.returns-in-Greater
returns-in-Greater c =
    sym (append-nil (map equation_of c.args.laws.now)) ∙ ap (λ ls. map equation_of c.args.laws.now ++ ls) (sym (laws_at-greater (sides_from c.args.sides.now) (sym c.shape_cmp.ensures ∙ c.in-Greater.is)))
