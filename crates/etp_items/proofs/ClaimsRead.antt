-- Claims that were read behind the lines of a magma.
use Rattle.std.proofs.Common.{◌≡◌, ℕ, ◌<◌, ◌^◌, arith, Bool, true, false, cond, List, [], ◌∷◌, ◌++◌, length, map, refl, sym, ap, subst, ◌∙◌, inl, inr, Option, Some, None, length-append}
use Rattle.std.specs.Option.{option_map}
use Rattle.std.specs.List.{concat, AllByRecursion}
use Rattle.std.proofs.lemmas.List.Elements.{All-from_recursion}
use Rattle.etp_io.specs.Texts.{LineText, whole, too_long}
use Rattle.etp_words.specs.Numbers.{number_said}
use Rattle.etp_reading.specs.Reading.{Reads}
use Rattle.etp_lines.specs.Claims.{holds, fails, ClaimPlace, holding, first_claim, number_then, numbers_said, SaysNumbers}
use Rattle.etp_lines.specs.BodyLines.{Line, Head, Place, in_head, in_claims, claim_line, Says, after, is_told, is_complete, bodies}
use Rattle.etp_items.specs.Bodies.{Model}
use Rattle.etp_items.specs.Written.{AreNumbers, IsWritable, IsWritableModel}
use Rattle.etp_items.proofs.NumbersFit.{number_fits}

some_none : {A : Type 0} (a : A) → Some a ≡ None → ⊥
some_none a e = cc

pub none_some : {A : Type 0} (a : A) → None ≡ Some a → ⊥
none_some a e = cc

false_true : false ≡ true → ⊥
false_true e = cc

-- numbers of words are below 2^32
then_fits : (n m : Option ℕ) (o : Option (List ℕ)) (ns : List ℕ) → n ≡ m → number_then n o ≡ Some ns → (k : ℕ) × (ks : List ℕ) × (m ≡ Some k) × (o ≡ Some ks) × (ns ≡ k ∷ ks)
then_fits (Some k) m (Some ks) ns e h = let f : k ∷ ks ≡ ns = cc in (k, ks, sym e, refl, sym f)
then_fits (Some k) m None ns e h = absurd (none_some ns h)
then_fits None m (Some ks) ns e h = absurd (none_some ns h)
then_fits None m None ns e h = absurd (none_some ns h)

pub numbers_fit : (ws : List (List ℕ)) (ns : List ℕ) → numbers_said ws ≡ Some ns → AllByRecursion (λ n. n < 2 ^ 32) ns
numbers_fit [] ns e = let f : [] ≡ ns = cc in subst (AllByRecursion (λ n. n < 2 ^ 32)) f tt
numbers_fit (w ∷ ws) ns e =
    let t = then_fits (number_said w) (number_said w) (numbers_said ws) ns refl e in
    subst (AllByRecursion (λ n. n < 2 ^ 32)) (sym t.4) (number_fits w t.0 t.2, numbers_fit ws t.1 t.3)

pub numbers_small : (line first ns : List ℕ) → SaysNumbers line first ns → AreNumbers ns
numbers_small line first ns s = All-from_recursion (λ n. n < 2 ^ 32) ns (numbers_fit s.more ns s.said)

-- the first line that isn't blank
pub record FirstRead (p : Place) (said : Line) (more : List Line) (q : Place) : Type 0 where
  pub line : List ℕ
  pub next : Place
  pub behind : List LineText
  pub says : Says line said
  pub stands : after p said ≡ Some next
  pub reads : Reads bodies next behind more q

no_lines : (l : Line) (ls : List Line) → Path (List Line) (l ∷ ls) [] → ⊥
no_lines l ls e = cc

same_head : (l m : Line) (ls ms : List Line) → Path (List Line) (l ∷ ls) (m ∷ ms) → l ≡ m
same_head l m ls ms e = cc

same_tail : (l m : Line) (ls ms : List Line) → Path (List Line) (l ∷ ls) (m ∷ ms) → ls ≡ ms
same_tail l m ls ms e = cc

pub first_read : (p : Place) (xs : List LineText) (said : Line) (more : List Line) (q : Place) → Reads bodies p xs (said ∷ more) q → FirstRead p said more q
first_read p [] said more q h = absurd (no_lines said more h.0)
first_read p (too_long ∷ xs) said more q h = absurd h
first_read p (whole line ∷ xs) said more q (inl h) = first_read p xs said more q h.1
first_read p (whole line ∷ xs) said more q (inr (l, next, ls, says, a, h, e)) =
    let first = same_head said l more ls e in
    record {
      line = line;
      next = next;
      behind = xs;
      says = subst (Says line) (sym first) says;
      stands = ap (after p) first ∙ a;
      reads = subst (λ (z : List Line). Reads bodies next xs z q) (sym (same_tail said l more ls e)) h;
    }

-- where lines end, the place does
pub nothing_read : (p : Place) (xs : List LineText) (q : Place) → Reads bodies p xs [] q → q ≡ p
nothing_read p [] q h = h.1
nothing_read p (too_long ∷ xs) q h = absurd h
nothing_read p (whole line ∷ xs) q (inl h) = nothing_read p xs q h.1
nothing_read p (whole line ∷ xs) q (inr (l, next, ls, says, a, h, e)) = absurd (no_lines l ls (sym e))

some_numbers : (ns : List ℕ) → (ns ≡ [] → ⊥) → 0 < length ns
some_numbers [] h = absurd (h refl)
some_numbers (n ∷ ns) h = omega arith

-- claims behind the first
fails_some : (p : Place) (xs : List LineText) (f : List ℕ) (fs : List (List ℕ)) (q : Place) → Reads bodies p xs (map claim_line (map fails (f ∷ fs))) q → 0 < length (concat (f ∷ fs))
fails_some p xs f fs q h =
    let r = first_read p xs (claim_line (fails f)) (map claim_line (map fails fs)) q h in
    let s = some_numbers f r.says.some in
    omega (arith, length-append f (concat fs))

holding_read : (xs : List LineText) (hs fs : List (List ℕ)) (q : Place) → is_complete q ≡ true → Reads bodies (in_claims holding) xs (map claim_line (map holds hs ++ map fails fs)) q → 0 < length (concat fs)
holding_read xs [] [] q c h = absurd (false_true (sym (ap is_complete (nothing_read (in_claims holding) xs q h)) ∙ c))
holding_read xs [] (f ∷ fs) q c h = fails_some (in_claims holding) xs f fs q h
holding_read xs (k ∷ hs) fs q c h =
    let r = first_read (in_claims holding) xs (claim_line (holds k)) (map claim_line (map holds hs ++ map fails fs)) q h in
    let there : in_claims holding ≡ r.next = let e : Some (in_claims holding) ≡ Some r.next = r.stands in cc in
    holding_read r.behind hs fs q c (subst (λ (z : Place). Reads bodies z r.behind (map claim_line (map holds hs ++ map fails fs)) q) (sym there) r.reads)

-- claims behind a magma
pub record ClaimsRead (head : Head) (held failed : List (List ℕ)) : Type 0 where
  pub told : is_told head ≡ true
  pub some_hold : 0 < length (concat held)
  pub some_fail : 0 < length (concat failed)

first_then : (b : Bool) (o : Option ClaimPlace) (next : Place) → cond b (option_map in_claims o) None ≡ Some next → (b ≡ true) × (option_map in_claims o ≡ Some next)
first_then true o next h = (refl, h)
first_then false o next h = absurd (none_some next h)

pub claims_read : (head : Head) (xs : List LineText) (hs fs : List (List ℕ)) (q : Place) → is_complete q ≡ true
    → Reads bodies (in_head head) xs (map claim_line (map holds hs ++ map fails fs)) q → ClaimsRead head hs fs
claims_read head xs [] [] q c h = absurd (false_true (sym (ap is_complete (nothing_read (in_head head) xs q h)) ∙ c))
claims_read head xs [] (f ∷ fs) q c h =
    let r = first_read (in_head head) xs (claim_line (fails f)) (map claim_line (map fails fs)) q h in
    let s = first_then (is_told head) (first_claim (fails f)) r.next r.stands in
    absurd (none_some r.next s.1)
claims_read head xs (k ∷ hs) fs q c h =
    let r = first_read (in_head head) xs (claim_line (holds k)) (map claim_line (map holds hs ++ map fails fs)) q h in
    let s = first_then (is_told head) (first_claim (holds k)) r.next r.stands in
    let there : in_claims holding ≡ r.next = let e : Some (in_claims holding) ≡ Some r.next = s.1 in cc in
    let some = some_numbers k r.says.some in
    record {
      told = s.0;
      some_hold = omega (arith, length-append k (concat hs));
      some_fail = holding_read r.behind hs fs q c (subst (λ (z : Place). Reads bodies z r.behind (map claim_line (map holds hs ++ map fails fs)) q) (sym there) r.reads);
    }

-- the lines of a magma that can be written, and claims behind them
pub record HeadRead (m : Model) (held failed : List (List ℕ)) (rest : List Line) : Type 0 where
  pub head : Head
  pub writable : IsWritableModel m
  pub claims : ClaimsRead head held failed
  pub behind : AllByRecursion IsWritable rest
