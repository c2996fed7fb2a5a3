-- A reader of finite proofs with one line more, and at its end.
use Rattle.std.proofs.Common.{◌≡◌, ℕ, ◌+◌, ◌<◌, ◌≤◌, ◌⊎◌, inl, inr, Bool, true, false, ◌&&◌, List, [], ◌∷◌, ◌++◌, arith, length, map, refl, sym, ap, subst, ◌∙◌, Option, Some, None, IfOk, Result, Ok, Err}
use Rattle.std.proofs.lemmas.Bool.{cases_lt}
use Rattle.std.specs.Option.{option_map, is_some}
use Rattle.etp_io.specs.Texts.{LineText, whole}
use Rattle.etp_words.specs.Words.{IsBlankLine}
use Rattle.etp_reading.specs.Reading.{AreRead, Refuses, HasNoPlace, line_limit}
use Rattle.etp_reading.specs.Tallies.{Judges, lines_then, unlisted_then}
use Rattle.etp_reading.specs.declared.tally.Tally.{Tally}
use Rattle.etp_reading.specs.declared.refusal.BodyRefusal.{BodyRefusal}
use Rattle.etp_reading.specs.declared.refusal.BodyRefusal.TheVariants.{BadLine, UnknownLaw, TooManyLines, Unfinished}
use Rattle.etp_reading.proofs.Theorems.{tally_theorems}
use Rattle.etp_finite_lines.specs.FiniteLines.{FiniteLine, FinitePlace, headed, stepping, cancelled, after, is_complete, finite_proofs}
use Rattle.etp_finite_lines.proofs.OneFiniteLine.{one}
use Rattle.etp_finite_body.proofs.WorkLemmas.{everywhere}
use Rattle.etp_finite_body.specs.declared.lemmas.FiniteLemma as Lemmas
use Rattle.etp_finite_body.specs.declared.lemmas.FiniteLemma.TheVariants.{Steps, Cancel}
use Rattle.etp_finite_body.specs.declared.body.FiniteProof.{FiniteProof}
use Rattle.etp_finite_body.specs.declared.proof_reader.ProofReader.{ProofReader}
use Rattle.etp_finite_body.specs.FiniteBodies.{FiniteProofBody, finite_lemma_of, finite_proof_of}
use Rattle.etp_finite_body.specs.Reading.{IsReadProof}
use Rattle.etp_finite_body.specs.Work.{place_after, proof_place, OpensProof, TakesInProof, HasCome, GoesOn, Takes, IsWhole, TakesLine, HasReadProof}

-- a proof goes on as its work does
pub proof_takes : (old new : FiniteProof) (said : FiniteLine) (taken : Bool) → TakesInProof old said new taken → Takes (Some old) said (Some new) taken
proof_takes old new said true t = λ place saids h. record {
  next = proof_place new;
  stands = ap (λ (z : FinitePlace). after z said) h.0 ∙ t.0;
  come = (refl, ap (λ z. z ++ said ∷ []) h.1 ∙ sym t.1);
}
proof_takes old new said false t = λ place saids h. ap (λ (z : FinitePlace). after z said) h.0 ∙ t

pub proof_takes_ok : {E : Type 0} (old new : FiniteProof) (said : FiniteLine) (r : Result Bool E) → IfOk r (TakesInProof old said new) → IfOk r (Takes (Some old) said (Some new))
proof_takes_ok old new said (Ok taken) t = proof_takes old new said taken t
proof_takes_ok old new said (Err e) t = tt

proof_opens : (said : FiniteLine) (o : Option FiniteProof) → OpensProof said o → Takes None said o (is_some o)
proof_opens said (Some p) t = λ place saids h. record {
  next = proof_place p;
  stands = ap (λ (z : FinitePlace). after z said) h.0 ∙ t.0;
  come = (refl, ap (λ z. z ++ said ∷ []) h.1 ∙ sym t.1);
}
proof_opens said None t = λ place saids h. ap (λ (z : FinitePlace). after z said) h.0 ∙ t

pub proof_opened : (old o : Option FiniteProof) (said : FiniteLine) → old ≡ None → OpensProof said o → Takes old said o (is_some o)
proof_opened old o said e t = subst (λ (z : Option FiniteProof). Takes z said o (is_some o)) (sym e) (proof_opens said o t)

-- one line more
pub pushed_counted : (r : ProofReader) (xs : List LineText) (x : LineText) → HasReadProof r xs → (r.tally.bad ≡ None → line_limit ≤ r.tally.lines)
    → HasReadProof (record r { tally = record r.tally { lines = lines_then r.tally.lines } }) (xs ++ x ∷ [])
pushed_counted r xs x h many = record {
  place = h.place;
  saids = h.saids;
  tallied = (tally_theorems finite_proofs one).skipped r.tally h.saids h.place xs x h.tallied many;
  come = h.come;
}

pub pushed_blank : (r n : ProofReader) (xs : List LineText) (x : LineText) (bytes : List ℕ) → HasReadProof r xs → r.tally.bad ≡ None → r.tally.lines < line_limit
    → x ≡ whole bytes → IsBlankLine bytes → n.work.proof ≡ r.work.proof → n.tally ≡ r.tally
    → HasReadProof (record n { tally = record n.tally { lines = lines_then n.tally.lines } }) (xs ++ x ∷ [])
pushed_blank r n xs x bytes h good few e blank same kept = rw (e, kept) (record {
  place = h.place;
  saids = h.saids;
  tallied = (tally_theorems finite_proofs one).blank r.tally h.saids h.place xs bytes h.tallied good few blank;
  come = λ q. subst (λ (o : Option FiniteProof). HasCome o h.place h.saids) (sym same) (h.come q);
})

some_none : {A : Type 0} (a : A) → Some a ≡ None → ⊥
some_none a e = cc

pub pushed_bad : (r n : ProofReader) (xs : List LineText) (x : LineText) → HasReadProof r xs → r.tally.bad ≡ None → r.tally.lines < line_limit
    → ((place : FinitePlace) (saids : List FiniteLine) → HasCome r.work.proof place saids → HasNoPlace finite_proofs place x) → n.tally ≡ r.tally
    → HasReadProof (record n { tally = record n.tally { lines = lines_then n.tally.lines; bad = Some (lines_then n.tally.lines) } }) (xs ++ x ∷ [])
pushed_bad r n xs x h good few none kept = rw kept (record {
  place = h.place;
  saids = h.saids;
  tallied = (tally_theorems finite_proofs one).bad r.tally h.saids h.saids h.place h.place xs x h.tallied good few (none h.place h.saids (h.come good));
  come = λ e. absurd (some_none (lines_then r.tally.lines) e);
})

pub pushed_taken : (r n : ProofReader) (xs : List LineText) (x : LineText) (bytes : List ℕ) (number : Option ℕ) → HasReadProof r xs → r.tally.bad ≡ None → r.tally.lines < line_limit
    → x ≡ whole bytes → TakesLine r.tally.count r.work.proof n.work.proof bytes number → n.tally ≡ r.tally
    → HasReadProof (record n { tally = record n.tally { lines = lines_then n.tally.lines; unlisted = unlisted_then n.tally.unlisted number (n.tally.lines + 1) } }) (xs ++ x ∷ [])
pushed_taken r n xs x bytes number h good few e t kept =
    let on : GoesOn n.work.proof t.said h.place h.saids = t.takes h.place h.saids (h.come good) in
    rw (e, kept) (record {
      place = on.next;
      saids = h.saids ++ t.said ∷ [];
      tallied = (tally_theorems finite_proofs one).said r.tally h.saids (h.saids ++ t.said ∷ []) h.place on.next xs bytes t.said number h.tallied good few t.says on.stands refl t.numbers;
      come = λ none. on.come;
    })

-- a line that says nothing has no place
pub nothing_said : (place : FinitePlace) (bytes : List ℕ) → (IsBlankLine bytes → ⊥) → ((l : FiniteLine) → finite_proofs.Says bytes l → ⊥) → HasNoPlace finite_proofs place (whole bytes)
nothing_said place bytes blank none = (blank, λ l s. absurd (none l s))

pub no_place : (work : Option FiniteProof) (bytes : List ℕ) (said : FiniteLine) (new : Option FiniteProof) → finite_proofs.Says bytes said → Takes work said new false
    → (place : FinitePlace) (saids : List FiniteLine) → HasCome work place saids → HasNoPlace finite_proofs place (whole bytes)
no_place work bytes said new says t place saids h = (tally_theorems finite_proofs one).no_place place bytes said says (t place saids h)

pub some_mapped : {A B : Type 0} (f : A → B) (o : Option A) → is_some (option_map f o) ≡ is_some o
some_mapped f None = refl
some_mapped f (Some a) = refl

whole_place : (work : Option FiniteProof) (body : Option FiniteProofBody) (place : FinitePlace) (saids : List FiniteLine) → IsWhole work body → HasCome work place saids → is_complete place ≡ is_some body
whole_place work None place saids w h = w place saids h
whole_place work (Some b) place saids w h = (w place saids h).0

judges : (t : Tally) (closed b d : Bool) (refusal : BodyRefusal) → (t.bad ≡ None → d ≡ b) → Judges t closed b (Some refusal) → Judges t closed d (Some refusal)
judges t closed b d (BadLine line) e j = j
judges t closed b d (TooManyLines line) e j = j
judges t closed b d (Unfinished line) e j = (j.0, ap (λ z. closed && z) (e j.0.0) ∙ j.1, j.2)
judges t closed b d (UnknownLaw line number) e j = (j.0, ap (λ z. closed && z) (e j.0.0) ∙ j.1, j.2)

-- at the end
pub ends_refused : (r : ProofReader) (xs : List LineText) (closed : Bool) (body : Option FiniteProofBody) (refusal : BodyRefusal) → HasReadProof r xs → IsWhole r.work.proof body
    → Judges r.tally closed (is_some body) (Some refusal) → Refuses finite_proofs r.tally.count xs closed refusal
ends_refused r xs closed body refusal h w j =
    (tally_theorems finite_proofs one).judged r.tally h.saids h.place xs closed (Some refusal) h.tallied
    (judges r.tally closed (is_some body) (is_complete h.place) refusal (λ e. whole_place r.work.proof body h.place h.saids w (h.come e)) j)

pub ends_whole : (r : ProofReader) (xs : List LineText) (closed : Bool) (p : FiniteProofBody) → HasReadProof r xs → IsWhole r.work.proof (Some p)
    → Judges r.tally closed true None → IsReadProof r.tally.count xs closed p
ends_whole r xs closed p h w j =
    let on = w h.place h.saids (h.come j.0.0) in
    let read : AreRead finite_proofs r.tally.count xs closed h.saids =
    (tally_theorems finite_proofs one).judged r.tally h.saids h.place xs closed None h.tallied (j.0, ap (λ z. closed && z) on.0 ∙ j.1, j.2) in
    subst (AreRead finite_proofs r.tally.count xs closed) on.1 read

-- a blank line, whatever was read before
pub pushed_any_blank : (r : ProofReader) (xs : List LineText) (bytes : List ℕ) → HasReadProof r xs → IsBlankLine bytes
    → HasReadProof (record r { tally = record r.tally { lines = lines_then r.tally.lines } }) (xs ++ whole bytes ∷ [])
pushed_any_blank r xs bytes h blank = go r.tally.bad refl (cases_lt r.tally.lines line_limit)
  where
    go : (o : Option ℕ) → r.tally.bad ≡ o → (r.tally.lines < line_limit) ⊎ (line_limit ≤ r.tally.lines)
        → HasReadProof (record r { tally = record r.tally { lines = lines_then r.tally.lines } }) (xs ++ whole bytes ∷ [])
    go (Some n) e l = pushed_counted r xs (whole bytes) h (λ q. absurd (some_none n (sym e ∙ q)))
    go None e (inr l) = pushed_counted r xs (whole bytes) h (λ q. l)
    go None e (inl l) = pushed_blank r r xs (whole bytes) bytes h e l refl blank refl refl

complete : (ls : List Lemmas.FiniteLemma) → 0 < length ls → is_complete (place_after headed (map finite_lemma_of ls)) ≡ true
complete [] h = absurd (omega (arith, h))
complete (Steps l ∷ ls) h = everywhere (λ p. is_complete p ≡ true) refl refl stepping refl (map finite_lemma_of ls)
complete (Cancel n v a b ∷ ls) h = everywhere (λ p. is_complete p ≡ true) refl refl cancelled refl (map finite_lemma_of ls)

-- a proof with a lemma is whole
pub proof_whole : (o : Option FiniteProof) (p : FiniteProof) → o ≡ Some p → 0 < length p.lemmas → IsWhole o (Some (finite_proof_of p))
proof_whole o p e some = subst (λ (z : Option FiniteProof). IsWhole z (Some (finite_proof_of p))) (sym e) (λ place saids h. (ap is_complete h.0 ∙ complete p.lemmas some, h.1))
