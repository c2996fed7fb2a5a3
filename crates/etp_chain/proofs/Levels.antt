-- A search finds laws one at a time.
use Rattle.std.proofs.Common.{◌≡◌, ℕ, zero, suc, ◌+◌, ◌-◌, ◌<◌, ◌≤◌, List, [], ◌∷◌, ◌++◌, Contains, All, get_or, length, refl, sym, ap, ◌∙◌, subst, arith, inl, inr}
use Rattle.std.proofs.Math.ListN.{set}
use Rattle.std.proofs.lemmas.List.{get_or-set_same, get_or-set_other}
use Rattle.std.proofs.lemmas.List.Sums.{sum_by-set, sum_by-cons}
use Rattle.std.proofs.lemmas.List.Elements.{Contains-append_left, Contains-get_or, Contains-push, Contains-push_cases}
use Rattle.std.proofs.lemmas.Bool.{cases_eq, cases_order}
use Rattle.etp_chain.specs.Edges.{IsLast}
use Rattle.std.proofs.Math.ListN.{length-set}
use Rattle.std.proofs.Common.{length-append}
use Rattle.etp_chain.specs.Searches.{Leads, Hops, here, hop, IsFound, missing, IsSearched, IsSpread, Grows}

-- a law that is found has a place in the list
pub found_within : (found : List ℕ) (law : ℕ) → IsFound found law → law < length found
found_within [] law h = absurd (omega (arith, h))
found_within (x ∷ xs) zero h = omega arith
found_within (x ∷ xs) (suc k) h = let more = found_within xs k h in omega (arith, more)

-- what a list that is changed at one place has
pub data SetAt (old new : List ℕ) (at value law : ℕ) : Type 0 where
  changed : law ≡ at → get_or new law 0 ≡ value → SetAt old new at value law
  kept : (law ≡ at → ⊥) → get_or new law 0 ≡ get_or old law 0 → SetAt old new at value law

pub set_at : (old : List ℕ) (at value law : ℕ) → at < length old → SetAt old (set old at value) at value law
set_at old at value law within =
    elim (cases_eq law at) [
      | inl same ↦ changed same (ap (λ x. get_or (set old at value) x 0) same ∙ get_or-set_same old at value 0 within)
      | inr apart ↦ kept apart (get_or-set_other old at law value 0 apart)
    ]

-- one law more is found
pub grows_one : (found : List ℕ) (next : List ℕ) (law value : ℕ) → law < length found → get_or found law 0 ≡ 0 → 0 < value
    → Grows found (set found law value) next (next ++ law ∷ [])
grows_one found next law value within none positive = record {
  same_length = length-set found law value;
  stays = λ x is. elim (set_at found law value x within) [ changed same _ ↦ absurd (omega (arith, is, ap (λ y. get_or found y 0) same, none)) | kept _ e ↦ e ];
  counted =
      let one = sum_by-set (λ code. 1 - code) found law value 0 within in
      omega (arith, one, none, length-append next (law ∷ []));
}

pub grows_none : (found next : List ℕ) → Grows found found next next
grows_none found next = record { same_length = refl; stays = λ x is. refl; counted = refl }

pub grows_then : (a b c : List ℕ) (x y z : List ℕ) → Grows a b x y → Grows b c y z → Grows a c x z
grows_then a b c x y z g h = record {
  same_length = h.same_length ∙ g.same_length;
  stays = λ law is. let e = g.stays law is in h.stays law (let k : IsFound b law = omega (arith, is, e) in k) ∙ e;
  counted = omega (arith, g.counted, h.counted);
}

pub still_found : (a b : List ℕ) (x y : List ℕ) (law : ℕ) → Grows a b x y → IsFound a law → IsFound b law
still_found a b x y law g is = let e = g.stays law is in omega (arith, is, e)

module _ (from to : List ℕ) (start code : ℕ) (found level next : List ℕ) where
  -- a law that an edge from the level leads to
  pub spread_one : (law other : ℕ) → IsSpread from to start code found level next → Contains level law → Leads from to law other
      → get_or found other 0 ≡ 0 → other < length found
      → IsSpread from to start code (set found other (code + 1)) level (next ++ other ∷ [])
  spread_one law other s in_level leads none within =
      let at : (x : ℕ) → SetAt found (set found other (code + 1)) other (code + 1) x = λ x. set_at found other (code + 1) x within in
      let zero_at : (x : ℕ) → x ≡ other → get_or found x 0 ≡ 0 = λ x same. ap (λ y. get_or found y 0) same ∙ none in
      record {
        positive = s.positive;
        begun = elim (at start) [ changed same _ ↦ absurd (omega (arith, zero_at start same, s.begun)) | kept _ e ↦ e ∙ s.begun ];
        hops = λ x n is.
            elim (at x) [
              | changed same e ↦
                  let k : get_or found law 0 ≡ suc (code - 1) = omega (arith, s.level_is law in_level, s.positive) in
                  let H : ℕ → ℕ → Type 0 = λ m y. Hops from to m start y in
                  let there : H (suc (code - 1)) other = hop (s.hops law (code - 1) k) leads in
                  let m : suc (code - 1) ≡ n = omega (arith, e, is, s.positive) in
                  subst (λ (y : ℕ). H n y) (sym same) (subst (λ (j : ℕ). H j other) m there)
              | kept _ e ↦ s.hops x n (sym e ∙ is)
            ];
        at_most = λ x. elim (at x) [ changed _ e ↦ omega (arith, e) | kept _ e ↦ omega (arith, e, s.at_most x) ];
        level_has = λ x is. elim (at x) [ changed _ e ↦ absurd (omega (arith, e, is)) | kept _ e ↦ s.level_has x (sym e ∙ is) ];
        level_is = λ x is.
            elim (at x) [
              | changed same _ ↦ absurd (omega (arith, zero_at x same, s.level_is x is, s.positive))
              | kept _ e ↦ e ∙ s.level_is x is
            ];
        next_has = λ x is.
            elim (at x) [
              | changed same _ ↦ subst (Contains (next ++ other ∷ [])) (sym same) (Contains-push next other)
              | kept _ e ↦ Contains-append_left next (other ∷ []) x (s.next_has x (sym e ∙ is))
            ];
        next_is = λ x is.
            elim (at x) [
              | changed _ e ↦ e
              | kept apart e ↦
                  e ∙ elim (Contains-push_cases next other x is) [ inl was ↦ s.next_is x was | inr same ↦ absurd (apart (sym same)) ]
            ];
        onward = λ a b edge is low.
            let a_kept : get_or (set found other (code + 1)) a 0 ≡ get_or found a 0 =
            elim (at a) [ changed _ e ↦ absurd (omega (arith, e, low)) | kept _ e ↦ e ] in
            let was = s.onward a b edge (omega (arith, a_kept, is)) (omega (arith, a_kept, low)) in
            let b_kept : get_or (set found other (code + 1)) b 0 ≡ get_or found b 0 =
            elim (at b) [ changed same _ ↦ absurd (omega (arith, zero_at b same, was.0)) | kept _ e ↦ e ] in
            (omega (arith, b_kept, was.0), omega (arith, a_kept, b_kept, was.1));
      }

  -- the next level, where all edges of this one are done
  pub next_level : IsSpread from to start code found level next
      → ((a b : ℕ) → Leads from to a b → Contains level a → IsFound found b)
      → IsSpread from to start (code + 1) found next []
  next_level s done = record {
    positive = omega arith;
    begun = s.begun;
    hops = s.hops;
    at_most = λ x. omega (arith, s.at_most x);
    level_has = s.next_has;
    level_is = s.next_is;
    next_has = λ x is. absurd (omega (arith, is, s.at_most x));
    next_is = λ x is. absurd (omega (arith, is.1));
    onward = λ a b edge is low.
        elim (cases_eq (get_or found a 0) code) [
          | inl same ↦ (done a b edge (s.level_has a same), omega (arith, same, s.at_most b))
          | inr apart ↦ s.onward a b edge is (omega (arith, low, apart))
        ];
  }

-- a search that begins
pub begun_search : (from to : List ℕ) (start : ℕ) (zeros : List ℕ) → start < length zeros → ((x : ℕ) → get_or zeros x 0 ≡ 0)
    → IsSpread from to start 1 (set zeros start 1) (start ∷ []) []
begun_search from to start zeros within none =
    let at : (x : ℕ) → SetAt zeros (set zeros start 1) start 1 x = λ x. set_at zeros start 1 x within in
    record {
      positive = omega arith;
      begun = get_or-set_same zeros start 1 0 within;
      hops = λ x n is.
          elim (at x) [
            | changed same e ↦
                let H : ℕ → ℕ → Type 0 = λ m y. Hops from to m start y in
                let m : zero ≡ n = omega (arith, e, is) in
                subst (λ (y : ℕ). H n y) (sym same) (subst (λ (j : ℕ). H j start) m (here start))
            | kept _ e ↦ absurd (omega (arith, e, none x, is))
          ];
      at_most = λ x. elim (at x) [ changed _ e ↦ omega (arith, e) | kept _ e ↦ omega (arith, e, none x) ];
      level_has = λ x is.
          elim (at x) [
            | changed same _ ↦ (0, omega arith, sym same)
            | kept _ e ↦ absurd (omega (arith, e, none x, is))
          ];
      level_is = λ x is.
          elim (at x) [
            | changed _ e ↦ e
            | kept apart _ ↦ absurd (elim (Contains-push_cases [] start x is) [ inl was ↦ omega (arith, was.1) | inr same ↦ apart (sym same) ])
          ];
      next_has = λ x is. elim (at x) [ changed _ e ↦ absurd (omega (arith, e, is)) | kept _ e ↦ absurd (omega (arith, e, none x, is)) ];
      next_is = λ x is. absurd (omega (arith, is.1));
      onward = λ a b edge is low. absurd (omega (arith, is, low));
    }

-- a search that ends
pub ended_search : (from to : List ℕ) (start code : ℕ) (found : List ℕ) → IsSpread from to start code found [] []
    → IsSearched from to start found
ended_search from to start code found s = record {
  begun = s.begun;
  hops = s.hops;
  onward = λ a b edge is.
      let none : (get_or found a 0 ≡ code) → ⊥ = λ same. omega (arith, (s.level_has a same).1) in
      let more : (get_or found a 0 ≡ code + 1) → ⊥ = λ same. omega (arith, (s.next_has a same).1) in
      s.onward a b edge is (omega (arith, s.at_most a, none, more));
}

-- what the edges of one law have found, from the last one on
pub record Spreading (from to : List ℕ) (law code : ℕ) (first found begun next : List ℕ) (last : ℕ) : Type 0 where
  pub grows : Grows first found begun next
  pub spread : (start : ℕ) (level : List ℕ) → Contains level law → IsSpread from to start code first level begun
      → IsSpread from to start code found level next
  pub within : last ≤ length from
  pub stands : (place : ℕ) → suc place ≡ last → get_or from place 0 ≡ law
  pub done : (place : ℕ) → last ≤ place → place < length from → get_or from place 0 ≡ law → IsFound found (get_or to place 0)

-- the place before the last one
pub last_before : (from : List ℕ) (law last before : ℕ) → 0 < last → ((place : ℕ) → suc place ≡ last → get_or from place 0 ≡ law)
    → IsLast from (get_or from (last - 1) 0) (last - 1) before → IsLast from law (last - 1) before
last_before from law last before some stands b =
    let P : ℕ → Type 0 = λ x. IsLast from x (last - 1) before in
    subst P (stands (last - 1) (omega arith)) b

module _ (from to : List ℕ) (law code : ℕ) (first found begun next : List ℕ) (last before : ℕ) where
  -- one edge more, whose law was found already
  pub spreads_kept : Spreading from to law code first found begun next last → 0 < last
      → IsLast from law (last - 1) before → IsFound found (get_or to (last - 1) 0)
      → Spreading from to law code first found begun next before
  spreads_kept s some b is = record {
    grows = s.grows;
    spread = s.spread;
    within = omega (arith, b.within, s.within);
    stands = b.stands;
    done = λ place above below here.
        elim (cases_order place (last - 1)) [
          | inl same ↦ let P : ℕ → Type 0 = λ x. IsFound found (get_or to x 0) in subst P (sym same) is
          | inr (inl lower) ↦ absurd (b.no_later place above lower here)
          | inr (inr higher) ↦ s.done place (omega (arith, higher)) below here
        ];
  }

  -- one edge more, whose law is found now
  pub spreads_found : Spreading from to law code first found begun next last → 0 < last
      → IsLast from law (last - 1) before → get_or found (get_or to (last - 1) 0) 0 ≡ 0
      → get_or to (last - 1) 0 < length found
      → Spreading from to law code first (set found (get_or to (last - 1) 0) (code + 1)) begun (next ++ get_or to (last - 1) 0 ∷ []) before
  spreads_found s some b none within =
      let other = get_or to (last - 1) 0 in
      let here = s.stands (last - 1) (omega (arith, some)) in
      let grown = grows_one found next other (code + 1) within none (omega arith) in
      let leads : Leads from to law other = record { place = last - 1; within = omega (arith, some, s.within); begins = here; ends = refl } in
      let now : Spreading from to law code first (set found other (code + 1)) begun (next ++ other ∷ []) last = record {
        grows = grows_then first found (set found other (code + 1)) begun next (next ++ other ∷ []) s.grows grown;
        spread = λ start level in_level h. spread_one from to start code found level next law other (s.spread start level in_level h) in_level leads none within;
        within = s.within;
        stands = s.stands;
        done = λ place above below at. still_found found (set found other (code + 1)) next (next ++ other ∷ []) (get_or to place 0) grown (s.done place above below at);
      } in
      let is : IsFound (set found other (code + 1)) other = omega (arith, get_or-set_same found other (code + 1) 0 within) in
      record {
        grows = now.grows;
        spread = now.spread;
        within = omega (arith, b.within, s.within);
        stands = b.stands;
        done = λ place above below at.
            elim (cases_order place (last - 1)) [
              | inl same ↦ let P : ℕ → Type 0 = λ x. IsFound (set found other (code + 1)) (get_or to x 0) in subst P (sym same) is
              | inr (inl lower) ↦ absurd (b.no_later place above lower at)
              | inr (inr higher) ↦ now.done place (omega (arith, higher)) below at
            ];
      }

  -- the same, by what a call of `find` says
  pub spreads_call : (other : ℕ) (new_found new_next : List ℕ) → other ≡ get_or to (last - 1) 0
      → new_found ≡ set found other (code + 1) → new_next ≡ next ++ other ∷ []
      → Spreading from to law code first found begun next last → 0 < last
      → IsLast from law (last - 1) before → get_or found other 0 ≡ 0 → other < length found
      → Spreading from to law code first new_found begun new_next before
  spreads_call other new_found new_next is set_is pushed s some b none within =
      let P : ℕ → Type 0 = λ x. get_or found x 0 ≡ 0 in
      let Q : ℕ → Type 0 = λ x. x < length found in
      rw (set_is, pushed, is) (spreads_found s some b (subst P is none) (subst Q is within))

-- a list in which nothing is found misses each of its places
missing_all : (zeros : List ℕ) → ((x : ℕ) → get_or zeros x 0 ≡ 0) → missing zeros ≡ length zeros
missing_all [] none = refl
missing_all (x ∷ xs) none = let more = missing_all xs (λ k. none (suc k)) in omega (arith, more, none 0, sum_by-cons (λ code. 1 - code) x xs)

pub record Searching (from to : List ℕ) (start code : ℕ) (found level next : List ℕ) : Type 0 where
  pub spread : IsSpread from to start code found level []
  pub none : next ≡ []
  pub total : code + missing found + length level ≤ length found + 1

pub begins_searching : (from to : List ℕ) (start : ℕ) (zeros found level : List ℕ) → start < length zeros → ((x : ℕ) → get_or zeros x 0 ≡ 0)
    → found ≡ set zeros start 1 → level ≡ start ∷ [] → (next : List ℕ) → next ≡ [] → Searching from to start 1 found level next
begins_searching from to start zeros found level within none set_is level_is next next_is =
    let one = grows_one zeros [] start 1 within (none start) (omega arith) in
    let all = missing_all zeros none in
    rw (set_is, level_is) record {
      spread = begun_search from to start zeros within none;
      none = next_is;
      total = omega (arith, one.counted, one.same_length, all);
    }

-- one level more
pub searches_level : (from to : List ℕ) (start code : ℕ) (found new level next after level_after next_after : List ℕ)
    → Searching from to start code found level next → 0 < length level → Grows found new next after
    → (IsSpread from to start code found level next → IsSpread from to start code new level after)
    → ((a b : ℕ) → Leads from to a b → Contains level a → IsFound new b)
    → level_after ≡ after → next_after ≡ []
    → Searching from to start (code + 1) new level_after next_after
searches_level from to start code found new level next after level_after next_after s some grows spread done is none =
    let P : List ℕ → Type 0 = λ xs. IsSpread from to start code found level xs in
    let same : length next ≡ 0 = ap length s.none in
    rw is record {
      spread = next_level from to start code new level after (spread (subst P (sym s.none) s.spread)) done;
      none = none;
      total = omega (arith, grows.counted, grows.same_length, s.total, same, some);
    }

-- the laws of a level have places
pub level_in : (from to : List ℕ) (start code : ℕ) (found level next : List ℕ) → IsSpread from to start code found level next
    → All (λ law. law < length found) level
level_in from to start code found level next s = λ k d within.
    let is = s.level_is (get_or level k d) (Contains-get_or level k d within) in
    found_within found (get_or level k d) (omega (arith, is, s.positive))
