-- A reader with one line more, and at its end.
use Rattle.std.proofs.Common.{◌≡◌, ℕ, ◌+◌, ◌<◌, ◌≤◌, Bool, true, false, ◌&&◌, List, [], ◌∷◌, ◌++◌, map, refl, sym, ap, subst, ◌∙◌, Option, Some, None, IfOk, Result, Ok, Err}
use Rattle.std.specs.Option.{option_map, is_some}
use Rattle.etp_io.specs.Texts.{LineText, whole}
use Rattle.etp_words.specs.Words.{IsBlankLine}
use Rattle.etp_reading.specs.Reading.{AreRead, Refuses, HasNoPlace, line_limit}
use Rattle.etp_reading.specs.Tallies.{Judges, lines_then, unlisted_then}
use Rattle.etp_reading.specs.declared.tally.Tally.{Tally}
use Rattle.etp_reading.specs.declared.refusal.BodyRefusal.{BodyRefusal}
use Rattle.etp_reading.specs.declared.refusal.BodyRefusal.TheVariants.{BadLine, UnknownLaw, TooManyLines, Unfinished}
use Rattle.etp_reading.proofs.Theorems.{tally_theorems}
use Rattle.etp_lines.specs.ProofLines.{ProofLine}
use Rattle.etp_lines.specs.BodyLines.{Line, Place, in_proof, proof_line, after, is_complete, bodies}
use Rattle.etp_items.specs.Bodies.{FileBody}
use Rattle.etp_items.specs.Reading.{IsReadBody}
use Rattle.etp_items.specs.Work.{proof_place, proof_said, OpensProof, TakesInProof, HasCome, GoesOn, Takes, IsWhole, TakesLine, HasRead}
use Rattle.etp_items.specs.declared.proof.work.ProofWork.{ProofWork}
use Rattle.etp_items.specs.declared.work.Work.{Work}
use Rattle.etp_items.specs.declared.work.Work.TheVariants.{Opening, Proof}
use Rattle.etp_items.specs.declared.reader.BodyReader.{BodyReader}
use Rattle.etp_lines.proofs.OneLine.{one}

map_end : {A B : Type 0} (f : A → B) (xs : List A) (x : A) → map f (xs ++ x ∷ []) ≡ map f xs ++ f x ∷ []
map_end f [] x = refl
map_end f (y ∷ ys) x = ap (λ zs. f y ∷ zs) (map_end f ys x)

-- a proof goes on as its work does
pub proof_takes : (old new : ProofWork) (said : ProofLine) (taken : Bool) → TakesInProof old said new taken → Takes (Proof old) (proof_line said) (Proof new) taken
proof_takes old new said true t = λ place saids h. record {
  next = in_proof (proof_place new);
  stands = ap (λ (z : Place). after z (proof_line said)) h.0 ∙ ap (option_map in_proof) t.0;
  come = (refl, ap (λ z. z ++ proof_line said ∷ []) h.1 ∙ sym (ap (map proof_line) t.1 ∙ map_end proof_line (proof_said old) said));
}
proof_takes old new said false t = λ place saids h. ap (λ (z : Place). after z (proof_line said)) h.0 ∙ ap (option_map in_proof) t

pub proof_takes_ok : {E : Type 0} (old new : ProofWork) (said : ProofLine) (r : Result Bool E) → IfOk r (TakesInProof old said new) → IfOk r (Takes (Proof old) (proof_line said) (Proof new))
proof_takes_ok old new said (Ok taken) t = proof_takes old new said taken t
proof_takes_ok old new said (Err e) t = tt

pub proof_opens : (old : Work) (said : ProofLine) (w : ProofWork) → old ≡ Opening → OpensProof said (Some w) → Takes old (proof_line said) (Proof w) true
proof_opens old said w o t place saids h =
    let k : HasCome Opening place saids = subst (λ (z : Work). HasCome z place saids) o h in
    record {
      next = in_proof (proof_place w);
      stands = ap (λ (z : Place). after z (proof_line said)) k.0 ∙ t.0;
      come = (refl, ap (λ z. z ++ proof_line said ∷ []) k.1 ∙ sym (ap (map proof_line) t.1));
    }

pub proof_shut : (old : Work) (said : ProofLine) → old ≡ Opening → OpensProof said None → Takes old (proof_line said) old false
proof_shut old said o t place saids h =
    let k : HasCome Opening place saids = subst (λ (z : Work). HasCome z place saids) o h in
    ap (λ (z : Place). after z (proof_line said)) k.0 ∙ t

-- one line more
pub pushed_counted : (r : BodyReader) (xs : List LineText) (x : LineText) → HasRead r xs → (r.tally.bad ≡ None → line_limit ≤ r.tally.lines)
    → HasRead (record r { tally = record r.tally { lines = lines_then r.tally.lines } }) (xs ++ x ∷ [])
pushed_counted r xs x h many = record {
  place = h.place;
  saids = h.saids;
  tallied = (tally_theorems bodies one).skipped r.tally h.saids h.place xs x h.tallied many;
  come = h.come;
}

pub pushed_blank : (r n : BodyReader) (xs : List LineText) (x : LineText) (bytes : List ℕ) → HasRead r xs → r.tally.bad ≡ None → r.tally.lines < line_limit
    → x ≡ whole bytes → IsBlankLine bytes → n.work ≡ r.work → n.tally ≡ r.tally
    → HasRead (record n { tally = record n.tally { lines = lines_then n.tally.lines } }) (xs ++ x ∷ [])
pushed_blank r n xs x bytes h good few e blank same kept = rw (e, same, kept) (record {
  place = h.place;
  saids = h.saids;
  tallied = (tally_theorems bodies one).blank r.tally h.saids h.place xs bytes h.tallied good few blank;
  come = h.come;
})

some_none : {A : Type 0} (a : A) → Some a ≡ None → ⊥
some_none a e = cc

pub pushed_bad : (r n : BodyReader) (xs : List LineText) (x : LineText) → HasRead r xs → r.tally.bad ≡ None → r.tally.lines < line_limit
    → ((place : Place) (saids : List Line) → HasCome r.work place saids → HasNoPlace bodies place x) → n.tally ≡ r.tally
    → HasRead (record n { tally = record n.tally { lines = lines_then n.tally.lines; bad = Some (lines_then n.tally.lines) } }) (xs ++ x ∷ [])
pushed_bad r n xs x h good few none kept = rw kept (record {
  place = h.place;
  saids = h.saids;
  tallied = (tally_theorems bodies one).bad r.tally h.saids h.saids h.place h.place xs x h.tallied good few (none h.place h.saids (h.come good));
  come = λ e. absurd (some_none (lines_then r.tally.lines) e);
})

pub pushed_taken : (r n : BodyReader) (xs : List LineText) (x : LineText) (bytes : List ℕ) (number : Option ℕ) → HasRead r xs → r.tally.bad ≡ None → r.tally.lines < line_limit
    → x ≡ whole bytes → TakesLine r.tally.count r.work n.work bytes number → n.tally ≡ r.tally
    → HasRead (record n { tally = record n.tally { lines = lines_then n.tally.lines; unlisted = unlisted_then n.tally.unlisted number (n.tally.lines + 1) } }) (xs ++ x ∷ [])
pushed_taken r n xs x bytes number h good few e t kept =
    let on : GoesOn r.work n.work t.said h.place h.saids = t.takes h.place h.saids (h.come good) in
    rw (e, kept) (record {
      place = on.next;
      saids = h.saids ++ t.said ∷ [];
      tallied = (tally_theorems bodies one).said r.tally h.saids (h.saids ++ t.said ∷ []) h.place on.next xs bytes t.said number h.tallied good few t.says on.stands refl t.numbers;
      come = λ none. on.come;
    })

-- a line that says nothing has no place
pub nothing_said : (place : Place) (bytes : List ℕ) → (IsBlankLine bytes → ⊥) → ((l : Line) → bodies.Says bytes l → ⊥) → HasNoPlace bodies place (whole bytes)
nothing_said place bytes blank none = (blank, λ l s. absurd (none l s))

pub no_place : (work : Work) (bytes : List ℕ) (said : Line) (new : Work) → bodies.Says bytes said → Takes work said new false
    → (place : Place) (saids : List Line) → HasCome work place saids → HasNoPlace bodies place (whole bytes)
no_place work bytes said new says t place saids h = (tally_theorems bodies one).no_place place bytes said says (t place saids h)

pub some_mapped : {A B : Type 0} (f : A → B) (o : Option A) → is_some (option_map f o) ≡ is_some o
some_mapped f None = refl
some_mapped f (Some a) = refl

whole_place : (work : Work) (body : Option FileBody) (place : Place) (saids : List Line) → IsWhole work body → HasCome work place saids → is_complete place ≡ is_some body
whole_place work None place saids w h = w place saids h
whole_place work (Some b) place saids w h = (w place saids h).0

judges : (t : Tally) (closed b d : Bool) (refusal : BodyRefusal) → (t.bad ≡ None → d ≡ b) → Judges t closed b (Some refusal) → Judges t closed d (Some refusal)
judges t closed b d (BadLine line) e j = j
judges t closed b d (TooManyLines line) e j = j
judges t closed b d (Unfinished line) e j = (j.0, ap (λ z. closed && z) (e j.0.0) ∙ j.1, j.2)
judges t closed b d (UnknownLaw line number) e j = (j.0, ap (λ z. closed && z) (e j.0.0) ∙ j.1, j.2)

-- at the end
pub ends_refused : (r : BodyReader) (xs : List LineText) (closed : Bool) (body : Option FileBody) (refusal : BodyRefusal) → HasRead r xs → IsWhole r.work body
    → Judges r.tally closed (is_some body) (Some refusal) → Refuses bodies r.tally.count xs closed refusal
ends_refused r xs closed body refusal h w j =
    (tally_theorems bodies one).judged r.tally h.saids h.place xs closed (Some refusal) h.tallied
    (judges r.tally closed (is_some body) (is_complete h.place) refusal (λ e. whole_place r.work body h.place h.saids w (h.come e)) j)

pub ends_whole : (r : BodyReader) (xs : List LineText) (closed : Bool) (body : FileBody) → HasRead r xs → IsWhole r.work (Some body)
    → Judges r.tally closed true None → IsReadBody r.tally.count xs closed body
ends_whole r xs closed body h w j =
    let on = w h.place h.saids (h.come j.0.0) in
    let read : AreRead bodies r.tally.count xs closed h.saids =
    (tally_theorems bodies one).judged r.tally h.saids h.place xs closed None h.tallied (j.0, ap (λ z. closed && z) on.0 ∙ j.1, j.2) in
    record {
      is_closed = read.is_closed;
      few = read.few;
      is_body = record { saids = h.saids; are_whole = read.are_whole; says = on.1 };
      listed = read.listed;
    }
