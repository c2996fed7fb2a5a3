use Rattle.std.proofs.Common.{◌≡◌, ◌<◌, ℕ, Bool, true, false, List, [], ◌∷◌, refl, inl, inr, arith, sym, ap, ◌∙◌}
use Rattle.std.specs.declared.cmp.Ordering.TheVariants.{Greater}
use Rattle.etp_theory.specs.Trees.{Tree, var, op, Occurs}
use Rattle.etp_theory.specs.Positions.{Side, to_left, to_right}
use Rattle.etp_theory.specs.Proofs.{as_read, IsStepBy}
use Rattle.std.proofs.Common.{zero, suc, ◌≢◌, ◌≤◌, All}
use Rattle.std.specs.List.{AllPairs}
use Rattle.etp_search.specs.Spaces.{AreMoreThan, IsWithin, IsSearchTerm}
use Rattle.etp_search.specs.Shortest.{IsUndecided, term_cmp}
use Rattle.etp_search.specs.Examples.{idempotence, square, left_law, reflexive, small}
use Rattle.etp_search.proofs.search_examples.Goals as goal

one_variable : (v : ℕ) → Occurs v square → v < 1
one_variable v (inl h) = omega (arith, h)
one_variable v (inr h) = omega (arith, h)

wide : IsSearchTerm small square
wide = record { narrow = omega arith; known = one_variable }

narrow : IsSearchTerm small (var 0)
narrow = record { narrow = omega arith; known = λ v (h : 0 ≡ v). omega (arith, h) }

to : IsStepBy left_law [] (var 0) square
to = record { by = λ v. var 0; before = refl; after = refl; outside = λ u. refl }

from : IsStepBy (as_read true left_law) [] square (var 0)
from = record { by = λ v. var 0; before = refl; after = refl; outside = λ u. refl }

within : IsStepBy left_law (to_left ∷ []) (op (var 0) (var 2)) (op square (var 2))
within = record { by = λ v. var 0; before = refl; after = refl; outside = λ u. refl }

same : (r : Bool) → IsStepBy (as_read r reflexive) [] square square
same true = record { by = λ v. square; before = refl; after = refl; outside = λ u. refl }
same false = record { by = λ v. square; before = refl; after = refl; outside = λ u. refl }

apart : (p : List Side) (r : Bool) → IsStepBy (as_read r left_law) p (var 0) (var 1) → ⊥
apart [] false h = let e = h.after in cc
apart [] true h = let e = h.before in cc
apart (to_left ∷ p) r h = let e = h.before in cc
apart (to_right ∷ p) r h = let e = h.before in cc

not_greater : (t : Tree) → t ≡ square → term_cmp square t ≡ Greater → ⊥
not_greater t h e = let k : term_cmp square square ≡ Greater = ap (λ u. term_cmp square u) (sym h) ∙ e in cc

square_within : IsWithin small square 0 square
square_within = (wide, refl)

step_within : IsWithin small square 1 (var 0)
step_within = inr (square, record { from = narrow; to = wide; step = record { position = []; reversed = false; right = to } }, square_within)

only_square : (n : ℕ) → 1 ≤ n → AreMoreThan n (IsWithin small square 0) → ⊥
only_square n big h =
    let many = h.many in
    h.different 0 1 square (omega arith) (omega (arith, many, big)) ((h.each 0 square (omega (arith, many, big))).1 ∙ sym (h.each 1 square (omega (arith, many, big))).1)

one : AllPairs (λ (s t : Tree). s ≢ t) (square ∷ [])
one i j d less within = absurd (omega (arith, less, within))

single : All (IsWithin small square 0) (square ∷ [])
single zero d within = square_within
single (suc k) d within = absurd (omega (arith, within))

zero_undecided : (j : ℕ) → j < 1 → IsUndecided small idempotence j
zero_undecided zero less = record { apart = λ h. let e = h.1 in cc; few = only_square 200000 (omega arith) }
zero_undecided (suc j) less = absurd (omega (arith, less))

pub returns : goal.returns
returns c = record {
  two_leaves = wide;
  three_leaves = λ h. let n = h.narrow in omega (arith, n);
  other_variable = λ h. let n = h.known 1 refl in omega (arith, n);
  forth = record { from = narrow; to = wide; step = record { position = []; reversed = false; right = to } };
  back = record { from = wide; to = narrow; step = record { position = []; reversed = true; right = from } };
  inside = record { position = to_left ∷ []; reversed = false; right = within };
  to_another = λ h. apart h.position h.reversed h.right;
  at_end = (wide, refl);
  one_step = inr (square, record { from = narrow; to = wide; step = record { position = []; reversed = false; right = to } }, (wide, refl));
  no_step = λ h. let e = h.1 in cc;
  wide_end = λ h. let n = h.0.narrow in omega (arith, n);
  fewer_leaves = refl;
  left_leaf = refl;
  smaller_word = refl;
  root_first = record { right = same false; first = λ p r h k. h; forwards = λ h k. let e : false ≡ true = h in cc };
  left_later = λ h. h.first [] false tt (same false);
  reversed_later = λ h. h.forwards refl (same false);
  idempotent = (
    record {
      next = record { from = narrow; to = wide; step = record { position = []; reversed = false; right = to } };
      nearer = (wide, refl);
      least = λ t n w. not_greater t w.1;
      place = record { right = to; first = λ p r h k. h; forwards = λ h k. let e : false ≡ true = h in cc };
      by_hypothesis = refl;
      not_cited = refl;
    },
    refl,
  );
  no_longer = λ h. h;
  more_than_none = record { terms = square ∷ []; different = one; each = single; many = omega arith };
  not_more_than_one = only_square 1 (omega arith);
  one_is_reached = zero_undecided;
  one_decides = λ h. h.apart step_within;
}
