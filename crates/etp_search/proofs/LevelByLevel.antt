-- From one level of a search to the next one, and back down along the least steps.
use Rattle.std.proofs.Common.{◌≡◌, ◌≢◌, ◌<◌, ◌≤◌, ◌+◌, ◌⊎◌, ℕ, zero, suc, Bool, true, false, List, [], ◌∷◌, ◌++◌, Some, None, length, length-append, refl, inl, inr, arith, sym, ap, ◌∙◌, subst, append_assoc, Contains}
use Rattle.std.specs.List.{slice_get, AllPairs}
use Rattle.std.proofs.lemmas.Bool.{cases_eq, cases_lt}
use Rattle.std.proofs.lemmas.Option.{same_Some}
use Rattle.std.proofs.lemmas.List.Elements.{Contains-append_cases}
use Rattle.etp_theory.specs.Trees.{Tree, Equation}
use Rattle.etp_theory.specs.Positions.{Side}
use Rattle.etp_theory.specs.Proofs.{ProofStep, Lemma, last_term, as_read, IsStepBy}
use Rattle.etp_search.specs.Spaces.{Space, IsSearchTerm, IsStepOf, AreNeighbours, IsWithin, AreMoreThan}
use Rattle.etp_search.specs.Shortest.{AreLeastSteps, IsLeastStep, IsUndecided, IsReached}
use Rattle.etp_search.specs.Sets.{IsJoined, IsOneMore}
use Rattle.etp_search.specs.Levels.{StandsIn, IsGrown, IsLevel, IsBeside, IsLeastIn, IsNearestStep}
use Rattle.etp_search.specs.Outcomes.{IsShortest, IsSpent, IsLedTo, unmoved, pushed}
use Rattle.etp_search.proofs.Kept.{nil, contains_nothing}
use Rattle.etp_search.proofs.Joining.{joined_both, joined_none}
use Rattle.etp_search.proofs.Standing.{stands_contains, contains_stands, stands_wider, stands_on, stands_back, stands_more, stands_at, no_more, all_contained, contained_all}

-- steps lead both ways

turned : (law : Equation) (r : Bool) (p : List Side) (s t : Tree) → IsStepBy (as_read r law) p s t → IsStepOf law t s
turned law true p s t h = record { position = p; reversed = false; right = record { by = h.by; before = h.after; after = h.before; outside = λ u. sym (h.outside u) } }
turned law false p s t h = record { position = p; reversed = true; right = record { by = h.by; before = h.after; after = h.before; outside = λ u. sym (h.outside u) } }

pub back : (space : Space) (s t : Tree) → AreNeighbours space s t → AreNeighbours space t s
back space s t h = record { from = h.to; to = h.from; step = turned space.law h.step.reversed h.step.position s t h.step.right }

pub within_space : (space : Space) (end : Tree) (k : ℕ) (t : Tree) → IsWithin space end k t → IsSearchTerm space t
within_space space end zero t h = h.0
within_space space end (suc k) t (inl h) = within_space space end k t h
within_space space end (suc k) t (inr h) = h.1.from

-- the terms of a level

module _ (space : Space) (end : Tree) (k start : ℕ) (old : List Tree) (level : IsLevel space end k start (length old) old) where
  pub level_terms : (t : Tree) → StandsIn old 0 (length old) t → IsSearchTerm space t
  level_terms t h = within_space space end k t ((level.exact t).0 h)

  pub few : length old ≤ 200000 → AreMoreThan 200000 (IsWithin space end k) → ⊥
  few small more =
      let n = no_more more.terms old more.different (λ t h. stands_contains old 0 (length old) t ((level.exact t).1 (contained_all (IsWithin space end k) more.terms more.each t h))) in
      let m = more.many in
      omega (arith, n, m, small)

  module _ (new : List Tree) (joined : IsJoined (IsBeside space old start (length old)) 200000 old new) where
    grown : IsGrown old new
    grown = (joined.added, joined.behind)

    -- all terms are within one step more
    pub next_only : (t : Tree) → Contains new t → IsWithin space end (suc k) t
    next_only t h = go (Contains-append_cases old joined.added t (subst (λ (ts : List Tree). Contains ts t) joined.behind h))
      where
        go : Contains old t ⊎ Contains joined.added t → IsWithin space end (suc k) t
        go (inl h) = inl ((level.exact t).0 (contains_stands old t h))
        go (inr h) =
            let b = joined.only t h in
            inr (b.term, back space b.term t b.next, (level.exact b.term).0 (stands_wider old start (length old) 0 (length old) b.term (omega arith) (omega arith) b.stands))

    pub next_many : AllPairs (λ s t. s ≢ t) new → 200000 < length new → AreMoreThan 200000 (IsWithin space end (suc k))
    next_many different many = record { terms = new; different = different; each = all_contained (IsWithin space end (suc k)) new next_only; many = many }

    -- and where there aren't too many, these are all
    pub next_level : length new ≤ 200000 → IsLevel space end (suc k) (length old) (length new) new
    next_level small = record {
      order = longer;
      exact = λ t. ((λ h. next_only t (stands_contains new 0 (length new) t h)), all t);
      looked = λ s t h n. inr (s, back space s t n, (level.exact s).0 (stands_back old new 0 (length old) s grown (omega arith) h));
    }
      where
        longer : length old ≤ length new
        longer = let e = ap length joined.behind ∙ length-append old joined.added in omega (arith, e)

        kept : (t : Tree) → IsWithin space end k t → StandsIn new 0 (length new) t
        kept t h = stands_wider new 0 (length old) 0 (length new) t (omega arith) longer (stands_on old new 0 (length old) t grown ((level.exact t).1 h))

        beside : (s t : Tree) → AreNeighbours space s t → StandsIn old start (length old) s → (200000 < length new) ⊎ ((t : Tree) → IsBeside space old start (length old) t → Contains new t) → StandsIn new 0 (length new) t
        beside s t n h (inl many) = absurd (omega (arith, many, small))
        beside s t n h (inr every) = contains_stands new t (every t (record { term = s; stands = h; next = n }))

        near : (s t : Tree) → AreNeighbours space s t → (h : StandsIn old 0 (length old) s) → (h.place < start) ⊎ (start ≤ h.place) → StandsIn new 0 (length new) t
        near s t n h (inl l) = kept t (level.looked s t (record { place = h.place; from = h.from; before = l; stands = h.stands }) n)
        near s t n h (inr l) = beside s t n (record { place = h.place; from = l; before = h.before; stands = h.stands }) joined.all

        all : (t : Tree) → IsWithin space end (suc k) t → StandsIn new 0 (length new) t
        all t (inl h) = kept t h
        all t (inr h) = let s = (level.exact h.0).1 h.2 in near h.0 t (back space t h.0 h.1) s (cases_lt s.place start)

  -- neighbours in the level of a term that isn't in it stand where none was looked at
  pub in_layer : (s : Tree) → (IsWithin space end k s → ⊥) → (t : Tree) → AreNeighbours space s t → IsWithin space end k t → StandsIn old start (length old) t
  in_layer s apart t n h = let p = (level.exact t).1 h in go p (cases_lt p.place start)
    where
      go : (p : StandsIn old 0 (length old) t) → (p.place < start) ⊎ (start ≤ p.place) → StandsIn old start (length old) t
      go p (inl l) = absurd (apart (level.looked t s (record { place = p.place; from = p.from; before = l; stands = p.stands }) (back space s t n)))
      go p (inr l) = record { place = p.place; from = l; before = p.before; stands = p.stands }

  pub apart_next : (s : Tree) → (IsWithin space end k s → ⊥) → IsLeastIn (AreNeighbours space s) old start (length old) None → IsWithin space end (suc k) s → ⊥
  apart_next s apart none (inl h) = apart h
  apart_next s apart none (inr h) = none h.0 (in_layer s apart h.0 h.1 h.2) h.1

  module _ (new : List Tree) (grown : IsGrown old new) (s : Tree) (apart : IsWithin space end k s → ⊥) where
    -- in the list as it has grown since
    pub none_before : IsLeastIn (AreNeighbours space s) new start (length old) None → IsLeastIn (AreNeighbours space s) old start (length old) None
    none_before h = λ t p n. h t (stands_on old new start (length old) t grown p) n

    module _ (x : ProofStep) (near : IsNearestStep space new start (length old) s x) where
      pub near_within : IsWithin space end k x.to
      near_within = (level.exact x.to).0 (stands_wider old start (length old) 0 (length old) x.to (omega arith) (omega arith) (stands_back old new start (length old) x.to grown (omega arith) near.nearest.among))

      pub reached_next : IsWithin space end (suc k) s
      reached_next = inr (x.to, near.nearest.has, near_within)

      pub least_step : IsLeastStep space end k s x
      least_step = record {
        next = near.nearest.has;
        nearer = near_within;
        least = λ t n h. near.nearest.least t (stands_on old new start (length old) t grown (in_layer s apart t n h)) n;
        place = near.place;
        by_hypothesis = near.by_hypothesis;
        not_cited = near.not_cited;
      }

-- the steps of a lemma

pub last_pushed : (t : Tree) (xs : List ProofStep) (x : ProofStep) → last_term t (xs ++ x ∷ []) ≡ x.to
last_pushed t [] x = refl
last_pushed t (y ∷ ys) x = last_pushed y.to ys x

-- one step further down
module _ (space : Space) (goal : Equation) (steps k start : ℕ) (old new : List Tree)
    (level : IsLevel space goal.right k start (length old) old) (grown : IsGrown old new)
    (l : Lemma) (led : IsLedTo space goal steps (suc k) l) where
  not_yet : IsWithin space goal.right k (last_term l.start l.steps) → ⊥
  not_yet = led.not_before k (omega arith)

  pub some_step : IsLeastIn (AreNeighbours space (last_term l.start l.steps)) new start (length old) None → ⊥
  some_step none = apart_next space goal.right k start old level (last_term l.start l.steps) not_yet (none_before space goal.right k start old level new grown (last_term l.start l.steps) not_yet none) led.arrived

  pub led_on : (x : ProofStep) → IsNearestStep space new start (length old) (last_term l.start l.steps) x → IsLedTo space goal steps k (pushed l x)
  led_on x near = record {
    far = led.far;
    within = led.within;
    first = led.first;
    reached = led.reached;
    start = led.start;
    count = (let n = length-append l.steps (x ∷ []) in let c = led.count in omega (arith, n, c));
    arrived = subst (IsWithin space goal.right k) (sym last) inside;
    not_before = λ j less h. led.not_before (suc j) (omega (arith, less)) (inr (x.to, near.nearest.has, subst (IsWithin space goal.right j) last h));
    least = least;
  }
    where
      last : last_term l.start (l.steps ++ x ∷ []) ≡ x.to
      last = last_pushed l.start l.steps x

      inside : IsWithin space goal.right k x.to
      inside = near_within space goal.right k start old level new grown (last_term l.start l.steps) not_yet x near

      least : (rest : List ProofStep) → AreLeastSteps space goal.right k (last_term l.start (l.steps ++ x ∷ [])) rest → AreLeastSteps space goal.right led.far goal.left ((l.steps ++ x ∷ []) ++ rest)
      least rest h =
          subst (AreLeastSteps space goal.right led.far goal.left) (sym (append_assoc l.steps (x ∷ []) rest))
          (led.least (x ∷ rest) (least_step space goal.right k start old level new grown (last_term l.start l.steps) not_yet x near, subst (λ t. AreLeastSteps space goal.right k t rest) last h))

-- nothing is done yet, and one step fewer doesn't reach the end
pub led_nowhere : (space : Space) (goal : Equation) (steps far : ℕ) → far ≤ steps → IsReached space goal far → IsWithin space goal.right far goal.left → IsLedTo space goal steps far (unmoved goal.left)
led_nowhere space goal steps far within first reached = record {
  far = far;
  within = within;
  first = first;
  reached = reached;
  start = refl;
  count = omega arith;
  arrived = reached;
  not_before = λ j less. (first j less).apart;
  least = λ rest h. h;
}

-- at the end
pub led_home : (space : Space) (goal : Equation) (steps : ℕ) (l : Lemma) → IsLedTo space goal steps 0 l → IsShortest space goal steps l
led_home space goal steps l led =
    let same : led.far ≡ length l.steps = (let c = led.count in omega (arith, c)) in
    record {
      within = (let w = led.within in omega (arith, w, same));
      first = subst (IsReached space goal) same led.first;
      reached = subst (λ n. IsWithin space goal.right n goal.left) same led.reached;
      start = led.start;
      least = subst (λ n. AreLeastSteps space goal.right n goal.left l.steps) same
          (subst (AreLeastSteps space goal.right led.far goal.left) (sym (nil l.steps)) (led.least [] led.arrived.1));
    }

-- the levels so far decide nothing

module _ (space : Space) (goal : Equation) (k : ℕ) (before : (j : ℕ) → j ≤ k → IsUndecided space goal j) where
  reached_after : IsReached space goal (suc k)
  reached_after j less = before j (omega (arith, less))

  undecided_more : IsUndecided space goal (suc k) → (j : ℕ) → j ≤ suc k → IsUndecided space goal j
  undecided_more here j less = go (cases_eq j (suc k))
    where
      go : (j ≡ suc k) ⊎ (j ≢ suc k) → IsUndecided space goal j
      go (inl e) = subst (IsUndecided space goal) (sym e) here
      go (inr e) = before j (omega (arith, less, e))

  module _ (steps start : ℕ) (less : k < steps) (old : List Tree) (level : IsLevel space goal.right k start (length old) old) where
    apart : IsWithin space goal.right k goal.left → ⊥
    apart = (before k (omega arith)).apart

    -- a step leads from the left side into the level
    pub led_here : (x : ProofStep) → IsNearestStep space old start (length old) goal.left x → IsLedTo space goal steps k (pushed (unmoved goal.left) x)
    led_here x near =
        let here : IsGrown old old = ([], nil old) in
        led_on space goal steps k start old old level here (unmoved goal.left)
        (led_nowhere space goal steps (suc k) less reached_after (reached_next space goal.right k start old level old here goal.left apart x near)) x near

    -- none does
    module _ (none : IsLeastIn (AreNeighbours space goal.left) old start (length old) None) where
      apart_here : IsWithin space goal.right (suc k) goal.left → ⊥
      apart_here = apart_next space goal.right k start old level goal.left apart none

      module _ (new : List Tree) (joined : IsJoined (IsBeside space old start (length old)) 200000 old new) (n : ℕ) (is : n ≡ suc k) where
        pub spent_next : AllPairs (λ s t. s ≢ t) new → 200000 < length new → IsSpent space goal steps n
        spent_next different many =
            subst (IsSpent space goal steps) (sym is) (record { within = less; first = reached_after; apart = apart_here; many = next_many space goal.right k start old level new joined different many })

        pub level_next : length new ≤ 200000 → IsLevel space goal.right n (length old) (length new) new
        level_next small = subst (λ m. IsLevel space goal.right m (length old) (length new) new) (sym is) (next_level space goal.right k start old level new joined small)

        pub undecided_next : length new ≤ 200000 → (j : ℕ) → j ≤ n → IsUndecided space goal j
        undecided_next small j h =
            undecided_more (record { apart = apart_here; few = few space goal.right (suc k) (length old) new (next_level space goal.right k start old level new joined small) small }) j (omega (arith, h, is))

-- the end alone, or nothing

pub level_none : (space : Space) (end : Tree) (seen : List Tree) → seen ≡ [] → (IsSearchTerm space end → ⊥) → IsLevel space end 0 0 (length seen) seen
level_none space end seen is never = record {
  order = omega arith;
  exact = λ t. (
    (λ h. absurd (let b = h.before in let e = ap length is in omega (arith, b, e))),
    λ h. absurd (never (subst (IsSearchTerm space) h.1 h.0)),
  );
  looked = λ s t h n. absurd (let b = h.before in omega (arith, b));
}

one_alone : (old new : List Tree) (u : Tree) → old ≡ [] → IsOneMore u old new → new ≡ u ∷ []
one_alone old new u is (inl h) = absurd (contains_nothing u (subst (λ (ts : List Tree). Contains ts u) is h.1))
one_alone old new u is (inr h) = h.0 ∙ ap (λ (ts : List Tree). ts ++ u ∷ []) is

pub level_end : (space : Space) (end u : Tree) (old new : List Tree) → old ≡ [] → u ≡ end → IsOneMore u old new → IsSearchTerm space end → IsLevel space end 0 0 (length new) new
level_end space end u old new none is more known =
    subst (λ (ts : List Tree). IsLevel space end 0 0 (length ts) ts) (sym (one_alone old new u none more ∙ ap (λ v. v ∷ []) is))
    (record {
      order = omega arith;
      exact = λ t. ((λ h. by t h.place h.before h.stands), λ h. record { place = 0; from = omega arith; before = omega arith; stands = ap Some (sym h.1) });
      looked = λ s t h n. absurd (let b = h.before in omega (arith, b));
    })
  where
    by : (t : Tree) (i : ℕ) → i < 1 → slice_get (end ∷ []) i ≡ Some t → IsWithin space end 0 t
    by t zero less h = let e : end ≡ t = same_Some _ _ h in (subst (IsSearchTerm space) e known, sym e)
    by t (suc i) less h = absurd (omega (arith, less))

pub end_short : (old new : List Tree) (u : Tree) → old ≡ [] → IsOneMore u old new → length new ≤ 1
end_short old new u none more = let e = ap length (one_alone old new u none more) in omega (arith, e)

-- at the start, where the left side isn't the end
pub undecided_first : (space : Space) (goal : Equation) (seen : List Tree) → IsLevel space goal.right 0 0 (length seen) seen → length seen ≤ 1 → (IsWithin space goal.right 0 goal.left → ⊥) → (k : ℕ) → k ≤ 0 → IsUndecided space goal k
undecided_first space goal seen level short apart zero h = record { apart = apart; few = few space goal.right 0 0 seen level (omega (arith, short)) }
undecided_first space goal seen level short apart (suc k) h = absurd (omega (arith, h))

-- where the left side is the end
pub led_at_end : (space : Space) (goal : Equation) (steps : ℕ) → IsWithin space goal.right 0 goal.left → IsShortest space goal steps (unmoved goal.left)
led_at_end space goal steps h = led_home space goal steps (unmoved goal.left) (led_nowhere space goal steps 0 (omega arith) (λ j less. absurd (omega (arith, less))) h)

-- the terms after one more is looked at

module _ (space : Space) (old mid new : List Tree) (start at : ℕ) (u : Tree) where
  pub joined_beside : start ≤ at → slice_get old at ≡ Some u → IsJoined (IsBeside space old start at) 200000 old mid → IsJoined (AreNeighbours space u) 200000 mid new → IsJoined (IsBeside space old start (at + 1)) 200000 old new
  joined_beside order here p q = joined_both (IsBeside space old start at) (AreNeighbours space u) (IsBeside space old start (at + 1)) 200000 old mid new p q to from
    where
      to : (t : Tree) → IsBeside space old start at t ⊎ AreNeighbours space u t → IsBeside space old start (at + 1) t
      to t (inl h) = record { term = h.term; stands = stands_wider old start at start (at + 1) h.term (omega arith) (omega arith) h.stands; next = h.next }
      to t (inr n) = record { term = u; stands = stands_at old start at u order here; next = n }

      from : (t : Tree) → IsBeside space old start (at + 1) t → IsBeside space old start at t ⊎ AreNeighbours space u t
      from t h = go (stands_more old start at u h.term here h.stands)
        where
          go : StandsIn old start at h.term ⊎ (u ≡ h.term) → IsBeside space old start at t ⊎ AreNeighbours space u t
          go (inl s) = inl (record { term = h.term; stands = s; next = h.next })
          go (inr e) = inr (subst (λ v. AreNeighbours space v t) (sym e) h.next)

pub joined_none_beside : (space : Space) (old : List Tree) (start : ℕ) → IsJoined (IsBeside space old start start) 200000 old old
joined_none_beside space old start = joined_none (IsBeside space old start start) 200000 old (λ t h. let a = h.stands.from in let b = h.stands.before in omega (arith, a, b))

-- there are too many before all are looked at
pub joined_early : (space : Space) (old new : List Tree) (start at stop : ℕ) → at ≤ stop → 200000 < length new → IsJoined (IsBeside space old start at) 200000 old new → IsJoined (IsBeside space old start stop) 200000 old new
joined_early space old new start at stop order many p = record {
  added = p.added;
  behind = p.behind;
  only = λ t h. let b = p.only t h in record { term = b.term; stands = stands_wider old start at start stop b.term (omega arith) order b.stands; next = b.next };
  all = inl many;
}
