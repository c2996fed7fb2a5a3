-- Overlaps looked at one after the other: what is found among some places is found among more.
use Rattle.std.proofs.Common.{◌≡◌, ℕ, ◌+◌, ◌<◌, ◌≤◌, ◌⊎◌, inl, inr, List, [], ◌∷◌, ◌++◌, length, Some, None, slice_get, refl, sym, ap, ap₂, ◌∙◌, subst, subst₂, arith, append_assoc, append-nil}
use Rattle.std.proofs.lemmas.List.{map-append}
use Rattle.std.proofs.lemmas.Option.{slice_get_within, same_Some}
use Rattle.etp_theory.specs.Trees.{Tree, var, op, Equation}
use Rattle.etp_theory.specs.Positions.{Side, to_left, to_right, sub_at}
use Rattle.etp_theory.specs.Weights.{Weight, AllDecrease}
use Rattle.etp_theory.specs.Forms.{HaveOneForm}
use Rattle.etp_theory.specs.Overlaps.{Overlap, outer_part, PairPasses, no_unifier, HasSmallVariables, IsConvergent}
use Rattle.etp_theory.specs.FailingOverlaps.{PositionBefore, Place, place, PlaceBefore, by_outer, by_position, by_inner, Finding, IsFinding}
use Rattle.etp_theory.proofs.Places.{position_inside, irreflexive, place_eq}
use Rattle.etp_theory.proofs.Failing.{alike, passes_alike, one_pair_tells}
use Rattle.etp_theory.proofs.Passing.{convergent_of}
use Rattle.etp_term.specs.Terms.{tree_of}
use Rattle.etp_term.specs.Positions.{side_of, position_of}
use Rattle.etp_term.specs.declared.term.Term.{Term}
use Rattle.etp_term.specs.declared.position.Side as Sides
use Rattle.etp_term.specs.declared.position.Side.TheVariants.{L, R}
use Rattle.etp_pairs.specs.Pairs.{IsAt, IsPairOf, HasNoPair}
use Rattle.etp_pairs.specs.Judging.{IsJudged}
use Rattle.etp_pairs.specs.Refusals.{IsFirstAt, IsRefused}
use Rattle.etp_pairs.specs.Among.{AllPass, IsFirstAmong, IsRefusedAmong, OfOuter, InPart, AtPosition, AtPlace, IsPartOf}
use Rattle.etp_pairs.specs.declared.judging.Judged.{Judged}
use Rattle.etp_pairs.specs.declared.judging.Judged.TheVariants.{OneForm}
use Rattle.etp_pairs.specs.declared.refusal.PairsRefusal.{PairsRefusal}
use Rattle.etp_pairs.specs.declared.refusal.PairsRefusal.TheVariants.{Unjoinable, TermLimit, StepLimit, NoMemory}

same_position : (p : List Side) → PositionBefore p p → ⊥
same_position p h = irreflexive (record { outer = 0; position = p; inner = 0 }) (by_position refl h)

not_before_all : (q : List Side) → PositionBefore q [] → ⊥
not_before_all [] h = h
not_before_all (d ∷ q) h = h

-- no position inside comes before the whole
not_before_whole : (p q : List Side) → PositionBefore (p ++ q) p → ⊥
not_before_whole p q h = not_before_all q ((position_inside p q []).0 (subst (PositionBefore (p ++ q)) (sym (append-nil p)) h))

sub_at_left : (p : List Side) (t a b : Tree) → sub_at p t ≡ Some (op a b) → sub_at (p ++ to_left ∷ []) t ≡ Some a
sub_at_left [] t a b h = subst (λ u. sub_at (to_left ∷ []) u ≡ Some a) (sym (same_Some _ _ h)) refl
sub_at_left (to_left ∷ p) (var x) a b h = absurd (cc)
sub_at_left (to_left ∷ p) (op l r) a b h = sub_at_left p l a b h
sub_at_left (to_right ∷ p) (var x) a b h = absurd (cc)
sub_at_left (to_right ∷ p) (op l r) a b h = sub_at_left p r a b h

sub_at_right : (p : List Side) (t a b : Tree) → sub_at p t ≡ Some (op a b) → sub_at (p ++ to_right ∷ []) t ≡ Some b
sub_at_right [] t a b h = subst (λ u. sub_at (to_right ∷ []) u ≡ Some b) (sym (same_Some _ _ h)) refl
sub_at_right (to_left ∷ p) (var x) a b h = absurd (cc)
sub_at_right (to_left ∷ p) (op l r) a b h = sub_at_right p l a b h
sub_at_right (to_right ∷ p) (var x) a b h = absurd (cc)
sub_at_right (to_right ∷ p) (op l r) a b h = sub_at_right p r a b h

no_operation_in : (p q : List Side) (t : Tree) (v : ℕ) (x y : Tree) → sub_at p t ≡ Some (var v) → sub_at (p ++ q) t ≡ Some (op x y) → ⊥
no_operation_in [] [] t v x y h k = let f : Some (var v) ≡ Some (op x y) = sym h ∙ k in cc
no_operation_in [] (to_left ∷ q) t v x y h k = let f : None ≡ Some (op x y) = sym (ap (sub_at (to_left ∷ q)) (same_Some _ _ h)) ∙ k in cc
no_operation_in [] (to_right ∷ q) t v x y h k = let f : None ≡ Some (op x y) = sym (ap (sub_at (to_right ∷ q)) (same_Some _ _ h)) ∙ k in cc
no_operation_in (to_left ∷ p) q (var w) v x y h k = absurd (cc)
no_operation_in (to_left ∷ p) q (op a b) v x y h k = no_operation_in p q a v x y h k
no_operation_in (to_right ∷ p) q (var w) v x y h k = absurd (cc)
no_operation_in (to_right ∷ p) q (op a b) v x y h k = no_operation_in p q b v x y h k

-- what is found where two terms have one form
pub one_form : (rules : List Equation) (s t : Tree) (j : Judged) (u : Term) → j ≡ OneForm u → IsJudged rules s t j → HaveOneForm rules s t
one_form rules s t j u is h =
    let forms : IsJudged rules s t (OneForm u) = subst (IsJudged rules s t) is h in
    record { form = tree_of u; of_left = forms.0; of_right = forms.1 }

lt_or_eq : (i n : ℕ) → i < n + 1 → (i < n) ⊎ (i ≡ n)
lt_or_eq i n h = grind arith

module _ (rules : List Equation) where
  -- what is first among some places is first among more, where each earlier one passes

  abbrev Comes : (Place → Type 0) → (Place → Type 0) → Type 0
  Comes A B = (o : Overlap rules) → A (place o) → (x : Overlap rules) → B (place x) → PlaceBefore (place x) (place o) → A (place x) ⊎ PairPasses rules x

  among_more : (A B : Place → Type 0) → ((x : Place) → A x → B x) → Comes A B → (i : ℕ) (p : List Side) (j : ℕ) (f : Finding) → IsFirstAmong rules A i p j f → IsFirstAmong rules B i p j f
  among_more A B sub comes i p j f h = record {
    overlapped = h.overlapped;
    at = h.at;
    inside = sub (place h.overlapped) h.inside;
    left = h.left;
    right = h.right;
    results = h.results;
    found = h.found;
    earlier = λ x b k. elim (comes h.overlapped h.inside x b k) [ inl a ↦ h.earlier x a k | inr q ↦ q ];
  }

  refused_more : (A B : Place → Type 0) → ((x : Place) → A x → B x) → Comes A B → (r : PairsRefusal) → IsRefusedAmong rules A r → IsRefusedAmong rules B r
  refused_more A B sub comes (Unjoinable i p j u v) h = (among_more A B sub comes _ _ _ _ h.0, h.1, h.2)
  refused_more A B sub comes (TermLimit i p j) h = among_more A B sub comes _ _ _ _ h
  refused_more A B sub comes (StepLimit i p j) h = among_more A B sub comes _ _ _ _ h
  refused_more A B sub comes NoMemory h = h

  -- one place

  is_at : (i : ℕ) (p : List Side) (j : ℕ) (o : Overlap rules) → AtPlace i p j (place o) → IsAt i p j o
  is_at i p j o h = record { outer_is = h.0; position_is = h.1; inner_is = h.2 }

  at_place : (i : ℕ) (p : List Side) (j : ℕ) (o : Overlap rules) → IsAt i p j o → AtPlace i p j (place o)
  at_place i p j o h = (h.outer_is, h.position_is, h.inner_is)

  pub none_fails : (i : ℕ) (p : List Side) (j : ℕ) → HasNoPair rules i p j → AllPass rules (AtPlace i p j)
  none_fails i p j h o a = no_unifier (h o (is_at i p j o a))

  pub one_form_passes : (w : Weight) → AllDecrease w rules → (i : ℕ) (p : List Side) (j : ℕ) (o : Overlap rules) → IsAt i p j o → (s t : Tree) → IsPairOf o s t → HaveOneForm rules s t → AllPass rules (AtPlace i p j)
  one_form_passes w all i p j o at s t r h x a =
      let b = is_at i p j x a in
      passes_alike rules o x (alike rules o x (omega (arith, at.outer_is, b.outer_is)) (at.position_is ∙ sym b.position_is) (omega (arith, at.inner_is, b.inner_is)))
      ((one_pair_tells rules w all o s t r.critical).1 h)

  pub fails_there : (i : ℕ) (p : List Side) (j : ℕ) (o : Overlap rules) → IsAt i p j o → (s t : Tree) → IsPairOf o s t → (f : Finding) → IsFinding rules s t f → IsFirstAmong rules (AtPlace i p j) i p j f
  fails_there i p j o at s t r f h = record {
    overlapped = o;
    at = at;
    inside = at_place i p j o at;
    left = s;
    right = t;
    results = r;
    found = h;
    earlier = λ x a k.
        let b = is_at i p j x a in
        let same = place_eq (place x) (place o) (omega (arith, at.outer_is, b.outer_is)) (b.position_is ∙ sym at.position_is) (omega (arith, at.inner_is, b.inner_is)) in
        absurd (irreflexive (place o) (subst (λ y. PlaceBefore y (place o)) same k));
  }

  -- one position, by the inner rules below a number

  abbrev pub BelowInner : ℕ → List Side → ℕ → Place → Type 0
  BelowInner i p n x = AtPosition i p x × (x.inner < n)

  pub none_below : (i : ℕ) (p : List Side) → AllPass rules (BelowInner i p 0)
  none_below i p o a = absurd (omega (arith, a.1))

  pub one_inner_more : (i : ℕ) (p : List Side) (n : ℕ) → AllPass rules (BelowInner i p n) → AllPass rules (AtPlace i p (n + 1)) → AllPass rules (BelowInner i p (n + 1))
  one_inner_more i p n h k o a = go (lt_or_eq o.inner n a.1)
    where
      go : (o.inner < n) ⊎ (o.inner ≡ n) → PairPasses rules o
      go (inl l) = h o (a.0, l)
      go (inr e) = k o (a.0.0, a.0.1, ap (λ m. m + 1) e)

  pub all_inners : (i : ℕ) (p : List Side) (n : ℕ) → length rules ≤ n → AllPass rules (BelowInner i p n) → AllPass rules (AtPosition i p)
  all_inners i p n l h o a = h o (a, (let k = slice_get_within rules o.inner o.inner_rule o.inner_listed in omega (arith, k, l)))

  pub inner_fails : (i : ℕ) (p : List Side) (n : ℕ) → AllPass rules (BelowInner i p n) → (r : PairsRefusal) → IsRefusedAmong rules (AtPlace i p (n + 1)) r → IsRefusedAmong rules (AtPosition i p) r
  inner_fails i p n h = refused_more (AtPlace i p (n + 1)) (AtPosition i p) (λ x a. (a.0, a.1)) comes
    where
      comes : Comes (AtPlace i p (n + 1)) (AtPosition i p)
      comes o a x b (by_outer k) = absurd (omega (arith, a.0, b.0, k))
      comes o a x b (by_position e k) = absurd (same_position p (subst₂ PositionBefore b.1 a.1 k))
      comes o a x b (by_inner e q k) = inr (h x (b, omega (arith, a.2, k)))

  -- a part: its own position, then those in its left part, then those in its right part

  module _ (i : ℕ) (p : List Side) where
    pub variable_passes : (v : ℕ) (t : Tree) → IsPartOf rules i p t → t ≡ var v → AllPass rules (InPart i p)
    variable_passes v t h q o a =
        let same : o.outer ≡ h.place_of_rule = omega (arith, a.0, h.number) in
        let f : Some o.outer_rule ≡ Some h.rule = sym o.outer_listed ∙ ap (slice_get rules) same ∙ h.listed in
        let g : o.outer_rule ≡ h.rule = cc in
        let inside : sub_at (p ++ a.1.0) h.rule.left ≡ Some (outer_part o) = ap₂ sub_at (sym a.1.1) (ap (λ (x : Equation). x.left) (sym g)) ∙ o.part in
        absurd (no_operation_in p a.1.0 h.rule.left v o.part_left o.part_right (h.part ∙ ap Some q) inside)

    pub on_left : (t a b : Tree) → IsPartOf rules i p t → t ≡ op a b → IsPartOf rules i (p ++ to_left ∷ []) a
    on_left t a b h q = record { place_of_rule = h.place_of_rule; rule = h.rule; number = h.number; listed = h.listed; part = sub_at_left p h.rule.left a b (h.part ∙ ap Some q) }

    pub on_right : (t a b : Tree) → IsPartOf rules i p t → t ≡ op a b → IsPartOf rules i (p ++ to_right ∷ []) b
    on_right t a b h q = record { place_of_rule = h.place_of_rule; rule = h.rule; number = h.number; listed = h.listed; part = sub_at_right p h.rule.left a b (h.part ∙ ap Some q) }

    abbrev OnLeft : Place → Type 0
    OnLeft = InPart i (p ++ to_left ∷ [])

    abbrev OnRight : Place → Type 0
    OnRight = InPart i (p ++ to_right ∷ [])

    in_left : (x : Place) (q : List Side) → x.outer + 1 ≡ i → x.position ≡ p ++ to_left ∷ q → OnLeft x
    in_left x q h k = (h, (q, k ∙ sym (append_assoc p (to_left ∷ []) q)))

    in_right : (x : Place) (q : List Side) → x.outer + 1 ≡ i → x.position ≡ p ++ to_right ∷ q → OnRight x
    in_right x q h k = (h, (q, k ∙ sym (append_assoc p (to_right ∷ []) q)))

    of_left : (x : Place) → OnLeft x → InPart i p x
    of_left x a = (a.0, (to_left ∷ a.1.0, a.1.1 ∙ append_assoc p (to_left ∷ []) a.1.0))

    of_right : (x : Place) → OnRight x → InPart i p x
    of_right x a = (a.0, (to_right ∷ a.1.0, a.1.1 ∙ append_assoc p (to_right ∷ []) a.1.0))

    pub part_passes : AllPass rules (AtPosition i p) → AllPass rules OnLeft → AllPass rules OnRight → AllPass rules (InPart i p)
    part_passes here lefts rights o a = go a.1.0 a.1.1
      where
        go : (q : List Side) → o.position ≡ p ++ q → PairPasses rules o
        go [] e = here o (a.0, e ∙ append-nil p)
        go (to_left ∷ q) e = lefts o (in_left (place o) q a.0 e)
        go (to_right ∷ q) e = rights o (in_right (place o) q a.0 e)

    pub position_fails : (r : PairsRefusal) → IsRefusedAmong rules (AtPosition i p) r → IsRefusedAmong rules (InPart i p) r
    position_fails = refused_more (AtPosition i p) (InPart i p) (λ x a. (a.0, ([], a.1 ∙ sym (append-nil p)))) comes
      where
        comes : Comes (AtPosition i p) (InPart i p)
        comes o a x b (by_outer k) = absurd (omega (arith, a.0, b.0, k))
        comes o a x b (by_position e k) = absurd (not_before_whole p b.1.0 (subst₂ PositionBefore b.1.1 a.1 k))
        comes o a x b (by_inner e q k) = inl (b.0, q ∙ a.1)

    pub left_fails : AllPass rules (AtPosition i p) → (r : PairsRefusal) → IsRefusedAmong rules OnLeft r → IsRefusedAmong rules (InPart i p) r
    left_fails here = refused_more OnLeft (InPart i p) of_left comes
      where
        comes : Comes OnLeft (InPart i p)
        comes o a x b k = go b.1.0 b.1.1 (before k)
          where
            before : PlaceBefore (place x) (place o) → (x.position ≡ o.position) ⊎ PositionBefore x.position o.position
            before (by_outer k) = absurd (omega (arith, a.0, b.0, k))
            before (by_position e k) = inr k
            before (by_inner e q k) = inl q

            go : (q : List Side) → x.position ≡ p ++ q → (x.position ≡ o.position) ⊎ PositionBefore x.position o.position → OnLeft (place x) ⊎ PairPasses rules x
            go q e (inl same) = inl (b.0, (a.1.0, same ∙ a.1.1))
            go [] e (inr l) = inr (here x (b.0, e ∙ append-nil p))
            go (to_left ∷ q) e (inr l) = inl (in_left (place x) q b.0 e)
            go (to_right ∷ q) e (inr l) = absurd ((position_inside p (to_right ∷ q) (to_left ∷ a.1.0)).0 (subst₂ PositionBefore e (a.1.1 ∙ append_assoc p (to_left ∷ []) a.1.0) l))

    pub right_fails : AllPass rules (AtPosition i p) → AllPass rules OnLeft → (r : PairsRefusal) → IsRefusedAmong rules OnRight r → IsRefusedAmong rules (InPart i p) r
    right_fails here lefts = refused_more OnRight (InPart i p) of_right comes
      where
        comes : Comes OnRight (InPart i p)
        comes o a x b k = go b.1.0 b.1.1
          where
            go : (q : List Side) → x.position ≡ p ++ q → OnRight (place x) ⊎ PairPasses rules x
            go [] e = inr (here x (b.0, e ∙ append-nil p))
            go (to_left ∷ q) e = inr (lefts x (in_left (place x) q b.0 e))
            go (to_right ∷ q) e = inl (in_right (place x) q b.0 e)

  -- all positions of an outer rule, and all outer rules below a number

  pub outer_passes : (i : ℕ) → AllPass rules (InPart i []) → AllPass rules (OfOuter i)
  outer_passes i h o a = h o (a, (o.position, refl))

  pub outer_fails : (i : ℕ) (r : PairsRefusal) → IsRefusedAmong rules (InPart i []) r → IsRefusedAmong rules (OfOuter i) r
  outer_fails i = refused_more (InPart i []) (OfOuter i) (λ x a. a.0) (λ o a x b k. inl (b, (x.position, refl)))

  abbrev pub BelowOuter : ℕ → Place → Type 0
  BelowOuter n x = x.outer < n

  pub none_outside : AllPass rules (BelowOuter 0)
  none_outside o a = absurd (omega (arith, a))

  pub one_outer_more : (n : ℕ) → AllPass rules (BelowOuter n) → AllPass rules (OfOuter (n + 1)) → AllPass rules (BelowOuter (n + 1))
  one_outer_more n h k o a = go (lt_or_eq o.outer n a)
    where
      go : (o.outer < n) ⊎ (o.outer ≡ n) → PairPasses rules o
      go (inl l) = h o l
      go (inr e) = k o (ap (λ m. m + 1) e)

  pub all_pass : (w : Weight) → AllDecrease w rules → HasSmallVariables rules → (n : ℕ) → length rules ≤ n → AllPass rules (BelowOuter n) → IsConvergent w rules
  all_pass w all small n l h = convergent_of w rules all small (λ o. h o (let k = slice_get_within rules o.outer o.outer_rule o.outer_listed in omega (arith, k, l)))

  first_of_all : (n : ℕ) → AllPass rules (BelowOuter n) → (i : ℕ) (p : List Side) (j : ℕ) (f : Finding) → IsFirstAmong rules (OfOuter (n + 1)) i p j f → IsFirstAt rules i p j f
  first_of_all n h i p j f x = record {
    overlapped = x.overlapped;
    at = x.at;
    left = x.left;
    right = x.right;
    results = x.results;
    first = record { fails = record { pair = x.results.critical; found = x.found }; earlier = earlier };
  }
    where
      earlier : (o : Overlap rules) → PlaceBefore (place o) (place x.overlapped) → PairPasses rules o
      earlier o (by_outer k) = h o (omega (arith, k, x.inside))
      earlier o (by_position e k) = x.earlier o (omega (arith, e, x.inside)) (by_position e k)
      earlier o (by_inner e q k) = x.earlier o (omega (arith, e, x.inside)) (by_inner e q k)

  pub refused : (n : ℕ) → AllPass rules (BelowOuter n) → (r : PairsRefusal) → IsRefusedAmong rules (OfOuter (n + 1)) r → IsRefused rules r
  refused n h (Unjoinable i p j u v) x = (first_of_all n h _ _ _ _ x.0, x.1, x.2)
  refused n h (TermLimit i p j) x = first_of_all n h _ _ _ _ x
  refused n h (StepLimit i p j) x = first_of_all n h _ _ _ _ x
  refused n h NoMemory x = x

-- positions of the program one side further down

pub further_left : (p q : List Sides.Side) → q ≡ p ++ L ∷ [] → position_of q ≡ position_of p ++ to_left ∷ []
further_left p q h = ap position_of h ∙ map-append side_of p (L ∷ [])

pub further_right : (p q : List Sides.Side) → q ≡ p ++ R ∷ [] → position_of q ≡ position_of p ++ to_right ∷ []
further_right p q h = ap position_of h ∙ map-append side_of p (R ∷ [])
