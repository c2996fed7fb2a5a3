-- What a search over the edges of facts tells of walks, and what the next edge of a path is.
use Rattle.std.proofs.Common.{◌≡◌, ℕ, suc, ◌+◌, ◌-◌, ◌*◌, ◌<◌, ◌≤◌, Bool, true, false, List, [], ◌∷◌, ◌++◌, append_assoc, append-nil, Some, get_or, slice_get, length, refl, sym, ap, ◌∙◌, subst, subst₂, arith, inl, inr}
use Rattle.std.proofs.lemmas.Option.{slice_get_within, slice_get-get_or}
use Rattle.etp_theory.specs.Reach.{Fact, Edge, Reach, itself, along}
use Rattle.etp_theory.proofs.Reaching.{reach_then, reach_edge}
use Rattle.etp_chain.specs.declared.evidence.Edge.{Edge as Step}
use Rattle.etp_chain.specs.declared.graph.Source.{Source}
use Rattle.etp_chain.specs.Evidence.{turn_of, Walk, stays, goes, IsDistance, IsNextStep, IsPath, ends, goes_on}
use Rattle.etp_chain.specs.Edges.{StandsAt, HasEdges}
use Rattle.etp_chain.specs.Searches.{Leads, Hops, here, hop, IsFound, IsSearched, IsNearer, IsBest}
use Rattle.etp_chain.proofs.Walks.{edge_given, edge_giver, reach_walks, walk_reaches}
use Rattle.std.proofs.lemmas.Bool.{cases_order}

-- all turns come before the end
turn_within : (files file : ℕ) (dual : Bool) → file < files → turn_of file dual < 2 * files
turn_within files file true h = omega (arith, h)
turn_within files file false h = omega (arith, h)

-- what so many edges lead to is found, by at most that number
hops_found : (from to : List ℕ) (start : ℕ) (found : List ℕ) → IsSearched from to start found → (n a : ℕ) → Hops from to n start a
    → IsFound found a × (get_or found a 0 ≤ n + 1)
hops_found from to start found s n a (here x) = (omega (arith, s.begun), omega (arith, s.begun))
hops_found from to start found s n a (hop h e) =
    let before = hops_found from to start found s _ _ h in
    let now = s.onward _ _ e before.0 in
    (now.0, omega (arith, now.1, before.1))

-- what stands at one place is given at one turn
same_place : (from to : List ℕ) (sources : List Source) (place other e f file another : ℕ) (dual faced : Bool) → place ≡ other
    → StandsAt from to sources place e f file dual → StandsAt from to sources other e f another faced
    → turn_of file dual ≤ turn_of another faced
same_place from to sources place other e f file another dual faced same s t =
    let P : ℕ → Type 0 = λ k. slice_get sources k ≡ Some (record { file = file; dual = dual }) in
    let there = subst P same s.source in
    let both = sym there ∙ t.source in
    let one : (let r : Source = record { file = file; dual = dual } in r) ≡ (let r : Source = record { file = another; dual = faced } in r) = cc both in
    let turns : turn_of file dual ≡ turn_of another faced = ap (λ (x : Source). turn_of x.file x.dual) one in
    omega (arith, turns)

module _ (duals : List ℕ) (facts : List Fact) (from to : List ℕ) (sources : List Source)
    (edges : HasEdges duals facts (2 * length facts) from to sources) where
  -- an edge of facts stands somewhere
  pub leads : (e f : ℕ) → Edge duals facts e f → Leads from to e f
  leads e f d =
      let g = edge_giver duals facts e f d in
      let file_in = slice_get_within facts g.0 _ g.2.said in
      let at = edges.found g.0 g.1 e f g.2 (turn_within (length facts) g.0 g.1 file_in) in
      record { place = at.0; within = at.1.within; begins = at.1.begins; ends = at.1.ends }

  -- what stands at a place is an edge of facts
  pub stands_at : (place : ℕ) (source : Source) → place < length from → slice_get sources place ≡ Some source
      → StandsAt from to sources place (get_or from place 0) (get_or to place 0) source.file source.dual
  stands_at place source within is = record { within = within; begins = refl; ends = refl; source = is }

  pub edge_at : (place : ℕ) → place < length from → Edge duals facts (get_or from place 0) (get_or to place 0)
  edge_at place within =
      let source = get_or sources place (record { file = 0; dual = true }) in
      let is = slice_get-get_or sources place (record { file = 0; dual = true }) (omega (arith, within, edges.same_sources)) in
      let given = (edges.given place _ _ _ _ (stands_at place source within is)).0 in
      edge_given duals facts source.file source.dual _ _ given

  pub edge_of : (a b : ℕ) → Leads from to a b → Edge duals facts a b
  edge_of a b l =
      let E : ℕ → ℕ → Type 0 = Edge duals facts in
      subst₂ E l.begins l.ends (edge_at l.place l.within)

  pub turned : (a b : ℕ) → Leads from to a b → Leads to from b a
  turned a b l = record { place = l.place; within = omega (arith, l.within, edges.same_length); begins = l.ends; ends = l.begins }

  pub turned_back : (a b : ℕ) → Leads to from b a → Leads from to a b
  turned_back a b l = record { place = l.place; within = omega (arith, l.within, edges.same_length); begins = l.ends; ends = l.begins }

  -- what a search along the edges reaches is what is found
  pub found_after : (start : ℕ) (found : List ℕ) → IsSearched from to start found → (a b : ℕ) → Reach duals facts a b → IsFound found a → IsFound found b
  found_after start found s a b (itself x) is = is
  found_after start found s a b (along d r) is = found_after start found s _ b r (s.onward a _ (leads a _ d) is).0

  hops_reach : (n a b : ℕ) → Hops from to n a b → Reach duals facts a b
  hops_reach n a b (here x) = itself x
  hops_reach n a b (hop h e) = reach_then duals facts (hops_reach _ a _ h) (reach_edge duals facts (edge_of _ b e))

  pub found_reached : (start : ℕ) (found : List ℕ) → IsSearched from to start found → (a : ℕ) → IsFound found a → Reach duals facts start a
  found_reached start found s a is = hops_reach _ start a (s.hops a (get_or found a 0 - 1) (omega (arith, is)))

  module _ (end : ℕ) (found : List ℕ) (s : IsSearched to from end found) where
    hops_walk : (n e : ℕ) → Hops to from n end e → Walk duals facts n e end
    hops_walk n e (here x) = stays x
    hops_walk n e (hop h l) = goes (edge_of e _ (turned_back e _ l)) (hops_walk _ _ h)

    -- a walk to the end is at least as long as what is found
    pub walk_found : (e n : ℕ) → Walk duals facts n e end → IsFound found e × (get_or found e 0 ≤ n + 1)
    walk_found e n (stays x) = (omega (arith, s.begun), omega (arith, s.begun))
    walk_found e n (goes {n = m} {f = f} d w) =
        let rest = walk_found f m w in
        let now = s.onward f e (turned e f (leads e f d)) rest.0 in
        (now.0, omega (arith, now.1, rest.1))

    pub found_distance : (e n : ℕ) → get_or found e 0 ≡ suc n → IsDistance duals facts e end n
    found_distance e n is = record {
      walk = hops_walk n e (s.hops e n is);
      least = λ m w. let at = (walk_found e m w).1 in omega (arith, at, is);
    }

    pub distance_found : (e n : ℕ) → IsDistance duals facts e end n → get_or found e 0 ≡ suc n
    distance_found e n d =
        let at = walk_found e n d.walk in
        let low = d.least (get_or found e 0 - 1) (hops_walk _ e (s.hops e (get_or found e 0 - 1) (omega (arith, at.0)))) in
        omega (arith, at.0, at.1, low)

    pub walks_found : (e : ℕ) → Reach duals facts e end → IsFound found e
    walks_found e r = (walk_found e (reach_walks duals facts e end r).0 (reach_walks duals facts e end r).1).0

    pub found_walks : (e : ℕ) → IsFound found e → Reach duals facts e end
    found_walks e is = walk_reaches duals facts _ e end (hops_walk _ e (s.hops e (get_or found e 0 - 1) (omega (arith, is))))

    at_end : (e n : ℕ) → Hops to from n end e → get_or found e 0 ≡ suc n
        → ((place : ℕ) → place < length from → get_or from place 0 ≡ e → ¬ IsNearer found e (get_or to place 0)) → e ≡ end
    at_end e n (here x) is none = refl
    at_end e n (hop {b = b} h l) is none =
        let before = hops_found to from end found s _ b h in
        let now = s.onward b e l before.0 in
        let same : get_or found (get_or to l.place 0) 0 ≡ get_or found b 0 = ap (λ x. get_or found x 0) l.begins in
        absurd (none l.place (omega (arith, l.within, edges.same_length)) l.ends
        record { is_found = omega (arith, same, before.0); one_less = omega (arith, same, before.1, now.1, is) })

    -- a law without a nearer one is the end
    pub is_end : (e : ℕ) → IsFound found e → ((place : ℕ) → place < length from → get_or from place 0 ≡ e → ¬ IsNearer found e (get_or to place 0))
        → e ≡ end
    is_end e is none = at_end e (get_or found e 0 - 1) (s.hops e (get_or found e 0 - 1) (omega (arith, is))) (omega (arith, is)) none

    -- the best place tells the next step
    pub next_step : (e place : ℕ) (source : Source) → IsBest from to found e place → slice_get sources place ≡ Some source
        → IsNextStep duals facts end e (record { hypothesis = e; goal = get_or to place 0; file = source.file; dual = source.dual })
    next_step e place source best is =
        let goal = get_or to place 0 in
        let left = get_or found goal 0 - 1 in
        let near : get_or found goal 0 ≡ suc left = omega (arith, best.nearer.is_found) in
        let far : get_or found e 0 ≡ suc (suc left) = omega (arith, near, best.nearer.one_less) in
        let at = stands_at place source best.within is in
        let P : ℕ → Type 0 = λ x. StandsAt from to sources place x goal source.file source.dual in
        let stands = subst P best.begins at in
        let nearer_at : (other : ℕ) → get_or found (get_or to other 0) 0 ≡ suc left → IsNearer found e (get_or to other 0) =
        λ other d. record { is_found = omega (arith, d); one_less = omega (arith, d, far) } in
        record {
          from = refl;
          left = left;
          far = found_distance e (suc left) far;
          near = found_distance goal left near;
          least = λ law d away.
              let l = leads e law d in
              let same = distance_found law left away in
              let there : get_or found (get_or to l.place 0) 0 ≡ suc left = ap (λ x. get_or found x 0) l.ends ∙ same in
              elim (best.least l.place l.within l.begins (nearer_at l.place there)) [
                | inl less ↦ omega (arith, less, l.ends)
                | inr (equal, _) ↦ omega (arith, equal, l.ends)
              ];
          gives = (edges.given place e goal source.file source.dual stands).0;
          earliest = λ file dual g.
              let file_in = slice_get_within facts file _ g.said in
              let found_at = edges.found file dual e goal g (turn_within (length facts) file dual file_in) in
              let other = found_at.0 in
              let o = found_at.1 in
              let there : get_or found (get_or to other 0) 0 ≡ suc left = ap (λ x. get_or found x 0) o.ends ∙ near in
              let order : place ≤ other = elim (best.least other o.within o.begins (nearer_at other there)) [
                | inl less ↦ absurd (omega (arith, less, o.ends))
                | inr (_, at_most) ↦ at_most
              ] in
              elim (cases_order place other) [
                | inl same ↦ same_place from to sources place other e goal source.file file source.dual dual same stands o
                | inr (inl less) ↦ let t = edges.in_order place other e goal source.file e goal file source.dual dual less stands o in omega (arith, t)
                | inr (inr more) ↦ absurd (omega (arith, more, order))
              ];
        }

-- a path that goes on to its end
pub record Going (duals : List ℕ) (facts : List Fact) (end first law : ℕ) (path : List Step) : Type 0 where
  pub each : (rest : List Step) → IsPath duals facts end law rest → IsPath duals facts end first (path ++ rest)

pub goes_once : (duals : List ℕ) (facts : List Fact) (end first law : ℕ) (path : List Step) (step : Step) → Going duals facts end first law path
    → IsNextStep duals facts end law step → Going duals facts end first step.goal (path ++ step ∷ [])
goes_once duals facts end first law path step h next = record {
  each = λ rest p. rw (append_assoc path (step ∷ []) rest) (h.each (step ∷ rest) (goes_on next p));
}

pub goes_none : (duals : List ℕ) (facts : List Fact) (end first : ℕ) → Going duals facts end first first []
goes_none duals facts end first = record { each = λ rest p. p }

pub gone : (duals : List ℕ) (facts : List Fact) (end first law : ℕ) (path : List Step) → Going duals facts end first law path → law ≡ end
    → IsPath duals facts end first path
gone duals facts end first law path h same =
    let P : ℕ → Type 0 = λ x. IsPath duals facts end x [] in
    let Q : List Step → Type 0 = IsPath duals facts end first in
    subst Q (append-nil path) (h.each [] (subst P (sym same) ends))
