-- A list of edges of facts, and one edge more.
use Rattle.std.proofs.Common.{◌≡◌, ℕ, ◌+◌, ◌*◌, ◌<◌, Bool, true, false, List, [], ◌∷◌, ◌++◌, Some, get_or, slice_get, length, length-append, refl, sym, ap, ◌∙◌, subst, subst₂, arith, ◌⊎◌, inl, inr}
use Rattle.std.proofs.lemmas.List.{get_or_append_left}
use Rattle.std.proofs.lemmas.Option.{slice_get_within, slice_get-get_or, get_or_from_slice_get}
use Rattle.std.proofs.Math.Seq.{get_or-append_seam}
use Rattle.std.proofs.lemmas.Bool.{cases_eq, cases_order}
use Rattle.etp_theory.specs.Reach.{Fact, implies, refutes}
use Rattle.etp_closure.specs.Tables.{image_of}
use Rattle.etp_chain.specs.declared.graph.Source.{Source}
use Rattle.etp_chain.specs.Evidence.{GivesEdge, turn_of}
use Rattle.etp_chain.specs.Edges.{StandsAt, HasEdges}
use Rattle.etp_chain.proofs.Walks.{one_turn}

source_of : ℕ → Bool → Source
source_of file dual = record { file = file; dual = dual }

-- an item of a list with one item more is an old one or the last
slice_get_more : {X : Type 0} (xs : List X) (x y : X) (k : ℕ) → slice_get (xs ++ x ∷ []) k ≡ Some y
    → (slice_get xs k ≡ Some y) ⊎ ((k ≡ length xs) × (x ≡ y))
slice_get_more xs x y k h =
    let within = slice_get_within (xs ++ x ∷ []) k y h in
    let is = get_or_from_slice_get (xs ++ x ∷ []) k y y h in
    elim (cases_order k (length xs)) [
      | inl same ↦
          let P : ℕ → Type 0 = λ j. get_or (xs ++ x ∷ []) j y ≡ y in
          inr (same, sym (get_or-append_seam xs x [] y) ∙ subst P same is)
      | inr (inl below) ↦ inl (slice_get-get_or xs k y below ∙ ap Some (sym (get_or_append_left xs (x ∷ []) y k below) ∙ is))
      | inr (inr above) ↦ absurd (omega (arith, within, above, length-append xs (x ∷ [])))
    ]

slice_get_old : {X : Type 0} (xs : List X) (x y : X) (k : ℕ) → slice_get xs k ≡ Some y → slice_get (xs ++ x ∷ []) k ≡ Some y
slice_get_old xs x y k h =
    let within = slice_get_within xs k y h in
    slice_get-get_or (xs ++ x ∷ []) k y (omega (arith, within, length-append xs (x ∷ [])))
    ∙ ap Some (get_or_append_left xs (x ∷ []) y k within ∙ get_or_from_slice_get xs k y y h)

slice_get_last : {X : Type 0} (xs : List X) (x : X) → slice_get (xs ++ x ∷ []) (length xs) ≡ Some x
slice_get_last xs x = slice_get-get_or (xs ++ x ∷ []) (length xs) x (omega (arith, length-append xs (x ∷ []))) ∙ ap Some (get_or-append_seam xs x [] x)

-- a file gives one edge plain and one dual
one_edge : (duals : List ℕ) (facts : List Fact) (file : ℕ) (dual : Bool) (e f g h : ℕ) → GivesEdge duals facts file dual e f
    → GivesEdge duals facts file dual g h → (e ≡ g) × (f ≡ h)
one_edge duals facts file dual e f g h p q =
    let same : implies p.hypothesis p.goal ≡ implies q.hypothesis q.goal = cc (p.said, q.said) in
    let a : p.hypothesis ≡ q.hypothesis = cc same in
    let b : p.goal ≡ q.goal = cc same in
    (p.from ∙ ap (image_of duals dual) a ∙ sym q.from, p.to ∙ ap (image_of duals dual) b ∙ sym q.to)

module _ (from to : List ℕ) (sources : List Source) (a b file : ℕ) (dual : Bool) where
  -- an edge of the longer list is an old one or the last
  stands_cases : (place e f other : ℕ) (turned : Bool) → length to ≡ length from → length sources ≡ length from
      → StandsAt (from ++ a ∷ []) (to ++ b ∷ []) (sources ++ source_of file dual ∷ []) place e f other turned
      → StandsAt from to sources place e f other turned
      ⊎ ((place ≡ length from) × (a ≡ e) × (b ≡ f) × (file ≡ other) × (dual ≡ turned))
  unfolding source_of
  stands_cases place e f other turned same_to same_sources s =
      elim (slice_get_more sources (source_of file dual) (source_of other turned) place s.source) [
        | inl was ↦
            let below : place < length from = omega (arith, slice_get_within sources place (source_of other turned) was, same_sources) in
            inl record {
              within = below;
              begins = sym (get_or_append_left from (a ∷ []) 0 place below) ∙ s.begins;
              ends = sym (get_or_append_left to (b ∷ []) 0 place (omega (arith, below, same_to))) ∙ s.ends;
              source = was;
            }
        | inr (last, is) ↦
            let at : place ≡ length from = omega (arith, last, same_sources) in
            let P : ℕ → Type 0 = λ k. get_or (from ++ a ∷ []) k 0 ≡ e in
            let Q : ℕ → Type 0 = λ k. get_or (to ++ b ∷ []) k 0 ≡ f in
            let at_to : place ≡ length to = omega (arith, at, same_to) in
            let file_is : file ≡ other = ap (λ (x : Source). x.file) is in
            let dual_is : dual ≡ turned = ap (λ (x : Source). x.dual) is in
            inr (at, sym (get_or-append_seam from a [] 0) ∙ subst P at s.begins, sym (get_or-append_seam to b [] 0) ∙ subst Q at_to s.ends, file_is, dual_is)
      ]

  stands_still : (place e f other : ℕ) (turned : Bool) → length to ≡ length from
      → StandsAt from to sources place e f other turned
      → StandsAt (from ++ a ∷ []) (to ++ b ∷ []) (sources ++ source_of file dual ∷ []) place e f other turned
  unfolding source_of
  stands_still place e f other turned same_to s = record {
    within = omega (arith, s.within, length-append from (a ∷ []));
    begins = get_or_append_left from (a ∷ []) 0 place s.within ∙ s.begins;
    ends = get_or_append_left to (b ∷ []) 0 place (omega (arith, s.within, same_to)) ∙ s.ends;
    source = slice_get_old sources (source_of file dual) (source_of other turned) place s.source;
  }

  stands_last : length to ≡ length from → length sources ≡ length from
      → StandsAt (from ++ a ∷ []) (to ++ b ∷ []) (sources ++ source_of file dual ∷ []) (length from) a b file dual
  unfolding source_of
  stands_last same_to same_sources =
      let P : ℕ → Type 0 = λ k. get_or (to ++ b ∷ []) k 0 ≡ b in
      let Q : ℕ → Type 0 = λ k. slice_get (sources ++ source_of file dual ∷ []) k ≡ Some (source_of file dual) in
      record {
        within = omega (arith, length-append from (a ∷ []));
        begins = get_or-append_seam from a [] 0;
        ends = subst P same_to (get_or-append_seam to b [] 0);
        source = subst Q same_sources (slice_get_last sources (source_of file dual));
      }

  -- one edge more
  pub edges_more : (duals : List ℕ) (facts : List Fact) → HasEdges duals facts (turn_of file dual) from to sources
      → GivesEdge duals facts file dual a b
      → HasEdges duals facts (turn_of file dual + 1) (from ++ a ∷ []) (to ++ b ∷ []) (sources ++ record { file = file; dual = dual } ∷ [])
  unfolding source_of
  edges_more duals facts h gives = record {
    same_length = omega (arith, h.same_length, length-append from (a ∷ []), length-append to (b ∷ []));
    same_sources = omega (arith, h.same_sources, length-append from (a ∷ []), length-append sources (source_of file dual ∷ []));
    given = λ place e f other turned s.
        elim (stands_cases place e f other turned h.same_length h.same_sources s) [
          | inl was ↦ let g = h.given place e f other turned was in (g.0, omega (arith, g.1))
          | inr (at, p, q, r, t) ↦
              let P : ℕ → ℕ → Type 0 = λ x y. GivesEdge duals facts file dual x y in
              let Q : ℕ → Bool → Type 0 = λ x d. GivesEdge duals facts x d e f × (turn_of x d < turn_of file dual + 1) in
              subst₂ Q r t (subst₂ P p q gives, omega arith)
        ];
    found = λ other turned e f g below.
        elim (cases_eq (turn_of other turned) (turn_of file dual)) [
          | inl same ↦
              let is = one_turn other file turned dual same in
              let G : ℕ → Bool → Type 0 = λ x d. GivesEdge duals facts x d e f in
              let one = one_edge duals facts file dual a b e f gives (subst₂ G is.0 is.1 g) in
              let last = stands_last h.same_length h.same_sources in
              let P : ℕ → ℕ → Type 0 = λ x y. StandsAt (from ++ a ∷ []) (to ++ b ∷ []) (sources ++ source_of file dual ∷ []) (length from) x y file dual in
              let Q : ℕ → Bool → Type 0 = λ x d. StandsAt (from ++ a ∷ []) (to ++ b ∷ []) (sources ++ source_of file dual ∷ []) (length from) e f x d in
              (length from, subst₂ Q (sym is.0) (sym is.1) (subst₂ P one.0 one.1 last))
          | inr apart ↦
              let was = h.found other turned e f g (omega (arith, below, apart)) in
              (was.0, stands_still was.0 e f other turned h.same_length was.1)
        ];
    in_order = λ place later e f other g k another turned faced less s t.
        elim (stands_cases place e f other turned h.same_length h.same_sources s) [
          | inr (at, _, _, _, _) ↦
              let past = t.within in
              absurd (omega (arith, past, at, less, length-append from (a ∷ [])))
          | inl was ↦
              elim (stands_cases later g k another faced h.same_length h.same_sources t) [
                | inl there ↦ h.in_order place later e f other g k another turned faced less was there
                | inr (at, _, _, r, d) ↦
                    let P : ℕ → Bool → Type 0 = λ x y. turn_of other turned < turn_of x y in
                    subst₂ P r d (h.given place e f other turned was).1
              ]
        ];
  }

-- no edges yet
pub no_edges : (duals : List ℕ) (facts : List Fact) → HasEdges duals facts 0 [] [] []
no_edges duals facts = record {
  same_length = refl;
  same_sources = refl;
  given = λ place e f file dual s. absurd (omega (arith, s.within));
  found = λ file dual e f g below. absurd (omega (arith, below));
  in_order = λ place later e f file g h other dual turned less s t. absurd (omega (arith, s.within));
}

before : (other file : ℕ) (dual : Bool) → (other ≡ file → ⊥) → turn_of other dual < 2 * file + 1 + 1 → turn_of other dual < 2 * file
before other file true apart below = omega (arith, apart, below)
before other file false apart below = omega (arith, apart, below)

-- a file without an implication gives no edges
pub no_more : (duals : List ℕ) (facts : List Fact) (file : ℕ) (from to : List ℕ) (sources : List Source) (holds fails : List ℕ)
    → slice_get facts file ≡ Some (refutes holds fails) → HasEdges duals facts (2 * file) from to sources
    → HasEdges duals facts (2 * file + 1 + 1) from to sources
no_more duals facts file from to sources holds fails said h = record {
  same_length = h.same_length;
  same_sources = h.same_sources;
  given = λ place e f other dual s. let g = h.given place e f other dual s in (g.0, omega (arith, g.1));
  found = λ other dual e f g below.
      elim (cases_eq other file) [
        | inl same ↦
            let P : ℕ → Type 0 = λ x. slice_get facts x ≡ Some (implies g.hypothesis g.goal) in
            let there = subst P same g.said in
            let both : Some (refutes holds fails) ≡ Some (implies g.hypothesis g.goal) = sym said ∙ there in
            absurd (cc both)
        | inr apart ↦ h.found other dual e f g (before other file dual apart below)
      ];
  in_order = h.in_order;
}

-- turns that are the same number
pub same_turn : (duals : List ℕ) (facts : List Fact) (turn other : ℕ) (from to : List ℕ) (sources : List Source) → turn ≡ other
    → HasEdges duals facts turn from to sources → HasEdges duals facts other from to sources
same_turn duals facts turn other from to sources same h =
    let P : ℕ → Type 0 = λ t. HasEdges duals facts t from to sources in
    subst P same h
