-- The written lines of a proof are read, one after another.
use Rattle.std.proofs.Common.{◌≡◌, ℕ, ◌+◌, ◌<◌, ◌≤◌, arith, Bool, true, false, cond, not, ◌||◌, nat_lt, List, [], ◌∷◌, ◌++◌, length, map, refl, sym, ap, subst, ◌⊎◌, inl, inr, Some}
use Rattle.std.specs.Option.{option_map}
use Rattle.std.specs.List.{list_any, AllByRecursion}
use Rattle.std.proofs.lemmas.Bool.{lt-ltb}
use Rattle.etp_theory.specs.Proofs.{ProofStep, Lemma}
use Rattle.etp_theory.specs.Trees.{Tree}
use Rattle.etp_reading.specs.Reading.{Reads}
use Rattle.etp_items.specs.Bodies.{ProofBody}
use Rattle.etp_lines.specs.ProofLines.{Version, plain, citing, ProofLine, heading, cite, lemma, step, ProofPlace, headed, within, after_in_proof, may_step, cite_limit}
use Rattle.etp_lines.specs.BodyLines.{opening, in_proof, proof_line, bodies}
use Rattle.etp_items.specs.Reading.{lemma_lines, proof_lines}
use Rattle.etp_items.specs.Written.{written_proof_line, is_cited, has_cited, is_empty, is_citing, IsWritableProofLine}
use Rattle.etp_items.proofs.ReadBack.{neither}
use Rattle.etp_items.proofs.TextLines.{as_given}
use Rattle.etp_items.proofs.ProofLineBack.{line_back}

-- the written lines lead from one place of a proof to another
abbrev pub ReadsProof : ProofPlace → List ProofLine → ProofPlace → Type 0
ReadsProof p ls q = Reads bodies (in_proof p) (as_given written_proof_line ls) (map proof_line ls) (in_proof q)

-- and the whole proof from the opening
abbrev pub ReadsWhole : Version → ProofBody → Type 0
ReadsWhole v p =
    Reads bodies opening (as_given written_proof_line (proof_lines v p)) (map proof_line (proof_lines v p)) (in_proof (within v))

read_one : (p next q : ProofPlace) (l : ProofLine) (ls : List ProofLine) → IsWritableProofLine l → after_in_proof p l ≡ Some next → ReadsProof next ls q → ReadsProof p (l ∷ ls) q
read_one p next q l ls h a r = inr (proof_line l, in_proof next, map proof_line ls, line_back l h, ap (option_map in_proof) a, r, refl)

-- the version allows the steps by a cite
abbrev pub Allows : Version → Bool → Type 0
Allows v some_cited = (v ≡ citing) ⊎ (some_cited ≡ false)

allows_one : (v : Version) (cited : Bool) → Allows v cited → may_step v cited ≡ true
allows_one citing cited h = refl
allows_one plain true (inl e) = cc
allows_one plain true (inr e) = cc
allows_one plain false h = refl

allows_both : (v : Version) (a b : Bool) → Allows v (a || b) → Allows v a × Allows v b
allows_both v a b (inl e) = (inl e, inl e)
allows_both v a b (inr e) = let n = neither a b e in (inr n.0, inr n.1)

step_stands : (v : Version) (x : ProofStep) → may_step v x.cited ≡ true → after_in_proof (within v) (step x) ≡ Some (within v)
step_stands v x e = rw e refl

read_steps : (v : Version) (xs : List ProofStep) (ls : List ProofLine) → Allows v (list_any is_cited xs) → AllByRecursion IsWritableProofLine (map step xs ++ ls)
    → (AllByRecursion IsWritableProofLine ls → ReadsProof (within v) ls (within v)) → ReadsProof (within v) (map step xs ++ ls) (within v)
read_steps v [] ls may h on = on h
read_steps v (x ∷ xs) ls may h on =
    let m = allows_both v x.cited (list_any is_cited xs) may in
    read_one (within v) (within v) (within v) (step x) (map step xs ++ ls) h.0 (step_stands v x (allows_one v x.cited m.0)) (read_steps v xs ls m.1 h.1 on)

read_lemmas : (v : Version) (ls : List Lemma) → Allows v (list_any has_cited ls) → AllByRecursion IsWritableProofLine (lemma_lines ls) → ReadsProof (within v) (lemma_lines ls) (within v)
read_lemmas v [] may h = (refl, refl)
read_lemmas v (l ∷ ls) may h =
    let m = allows_both v (has_cited l) (list_any has_cited ls) may in
    read_one (within v) (within v) (within v) (lemma l.start) (map step l.steps ++ lemma_lines ls) h.0 refl
    (read_steps v l.steps (lemma_lines ls) m.0 h.1 (λ k. read_lemmas v ls m.1 k))

lemma_first : (v : Version) (n : ℕ) (t : Tree) → after_in_proof (headed v n) (lemma t) ≡ Some (within v)
lemma_first plain n t = refl
lemma_first citing n t = refl

read_all_lemmas : (v : Version) (n : ℕ) (ls : List Lemma) → 0 < length ls → Allows v (list_any has_cited ls) → AllByRecursion IsWritableProofLine (lemma_lines ls)
    → ReadsProof (headed v n) (lemma_lines ls) (within v)
read_all_lemmas v n [] some may h = absurd (omega (arith, some))
read_all_lemmas v n (l ∷ ls) some may h =
    let m = allows_both v (has_cited l) (list_any has_cited ls) may in
    read_one (headed v n) (within v) (within v) (lemma l.start) (map step l.steps ++ lemma_lines ls) h.0 (lemma_first v n l.start)
    (read_steps v l.steps (lemma_lines ls) m.0 h.1 (λ k. read_lemmas v ls m.1 k))

cite_stands : (n : ℕ) (name : List ℕ) → n < cite_limit → after_in_proof (headed citing n) (cite name) ≡ Some (headed citing (n + 1))
cite_stands n name h = let few : nat_lt n cite_limit ≡ true = lt-ltb n cite_limit h in rw few refl

read_cites : (names : List (List ℕ)) (n : ℕ) (ls : List ProofLine) → n + length names ≤ cite_limit → AllByRecursion IsWritableProofLine (map cite names ++ ls)
    → ((m : ℕ) → AllByRecursion IsWritableProofLine ls → ReadsProof (headed citing m) ls (within citing))
    → ReadsProof (headed citing n) (map cite names ++ ls) (within citing)
read_cites [] n ls few h on = on n h
read_cites (name ∷ names) n ls few h on =
    read_one (headed citing n) (headed citing (n + 1)) (within citing) (cite name) (map cite names ++ ls) h.0 (cite_stands n name (omega (arith, few)))
    (read_cites names (n + 1) ls (omega (arith, few)) h.1 on)

empty_is : (names : List (List ℕ)) → not (is_empty names) ≡ false → names ≡ []
empty_is [] e = refl
empty_is (name ∷ names) e = cc

-- both versions of a proof, by whether it cites
pub read_version : (p : ProofBody) (cites : Bool) (v : Version) → cites ≡ is_citing p → v ≡ (cond cites citing plain) → 0 < length p.lemmas → length p.cites ≤ cite_limit
    → AllByRecursion IsWritableProofLine (proof_lines v p) → ReadsWhole v p
read_version p true citing e f some few h =
    inr (proof_line (heading citing p.hypothesis p.goal), in_proof (headed citing 0), _, line_back (heading citing p.hypothesis p.goal) h.0, refl, (read_cites p.cites 0 (lemma_lines p.lemmas) (omega (arith, few)) h.1 (λ m k. read_all_lemmas citing m p.lemmas some (inl refl) k)), refl)
read_version p true plain e f some few h = cc
read_version p false citing e f some few h = cc
read_version p false plain e f some few h =
    let n = neither (not (is_empty p.cites)) (list_any has_cited p.lemmas) (sym e) in
    let none : p.cites ≡ [] = empty_is p.cites n.0 in
    let lines : map cite p.cites ++ lemma_lines p.lemmas ≡ lemma_lines p.lemmas = ap (λ z. map cite z ++ lemma_lines p.lemmas) none in
    inr (
      proof_line (heading plain p.hypothesis p.goal),
      in_proof (headed plain 0),
      _,
      line_back (heading plain p.hypothesis p.goal) h.0,
      refl,
      (subst (λ (z : List ProofLine). ReadsProof (headed plain 0) z (within plain)) (sym lines)
          (read_all_lemmas plain 0 p.lemmas some (inr n.1) (subst (AllByRecursion IsWritableProofLine) lines h.1))),
      refl,
    )
