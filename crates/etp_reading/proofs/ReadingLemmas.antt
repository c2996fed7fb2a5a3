-- Lines read one after another.
use Rattle.std.proofs.Common.{◌≡◌, ℕ, ◌+◌, ◌<◌, ◌≤◌, arith, List, [], ◌∷◌, ◌++◌, length, take, All, refl, sym, ap, subst, ◌∙◌, inl, inr, Option, Some, None, append_assoc, append-nil, length-append}
use Rattle.std.proofs.lemmas.List.{take-append-le, take_all}
use Rattle.std.proofs.lemmas.List.Elements.{All-push}
use Rattle.etp_theory.specs.LawNumbers.{IsLaw}
use Rattle.etp_io.specs.Texts.{LineText, whole, too_long}
use Rattle.etp_words.specs.Words.{IsBlankLine}
use Rattle.etp_reading.specs.Grammars.{Grammar, OneLine}
use Rattle.etp_reading.specs.Reading.{Reads, AreListed, IsFirstUnlisted, IsBadLine, HasNoPlace}
use Rattle.etp_reading.specs.Tallies.{KnowsListed, HasFirst, unlisted_then}
use Rattle.etp_reading.specs.declared.tally.Unlisted.{Unlisted}

pub take_more : {A : Type 0} (n : ℕ) (xs : List A) (x : A) → n ≤ length xs → take n (xs ++ x ∷ []) ≡ take n xs
take_more n xs x h = take-append-le n xs (x ∷ []) h

one_longer : {A : Type 0} (xs : List A) (x : A) → length (xs ++ x ∷ []) ≡ length xs + 1
one_longer xs x = length-append xs (x ∷ [])

take_end : {A : Type 0} (n : ℕ) (xs : List A) (x : A) → length xs < n → take n (xs ++ x ∷ []) ≡ take n xs ++ x ∷ []
take_end n xs x h =
    take_all n (xs ++ x ∷ []) (omega (arith, one_longer xs x)) ∙ ap (λ ys. ys ++ x ∷ []) (sym (take_all n xs (omega arith)))

module _ (g : Grammar) (one : OneLine g) where
  pub reads_append : (p q r : g.Place) (xs ys : List LineText) (s t : List g.Line) → Reads g p xs s q → Reads g q ys t r → Reads g p (xs ++ ys) (s ++ t) r
  reads_append p q r [] ys s t h k =
      subst (λ (z : List g.Line). Reads g p ys (z ++ t) r) (sym h.0) (subst (λ (z : g.Place). Reads g z ys t r) h.1 k)
  reads_append p q r (too_long ∷ xs) ys s t h k = absurd h
  reads_append p q r (whole line ∷ xs) ys s t (inl h) k = inl (h.0, reads_append p q r xs ys s t h.1 k)
  reads_append p q r (whole line ∷ xs) ys s t (inr (said, next, more, says, a, h, e)) k =
      inr (said, next, more ++ t, says, a, reads_append next q r xs ys more t h k, ap (λ z. z ++ t) e)

  pub reads_blank : (p q : g.Place) (xs : List LineText) (s : List g.Line) (line : List ℕ) → Reads g p xs s q → IsBlankLine line → Reads g p (xs ++ whole line ∷ []) s q
  reads_blank p q xs s line h b =
      subst (λ (z : List g.Line). Reads g p (xs ++ whole line ∷ []) z q) (append-nil s) (reads_append p q q xs (whole line ∷ []) s [] h (inl (b, (refl, refl))))

  pub reads_said : (p q r : g.Place) (xs : List LineText) (s : List g.Line) (line : List ℕ) (said : g.Line) → Reads g p xs s q → g.Says line said → g.after q said ≡ Some r
      → Reads g p (xs ++ whole line ∷ []) (s ++ said ∷ []) r
  reads_said p q r xs s line said h says a =
      reads_append p q r xs (whole line ∷ []) s (said ∷ []) h (inr (said, r, [], says, a, (refl, refl), refl))

  pub next_reads : (n : ℕ) (p q r : g.Place) (xs : List LineText) (s t : List g.Line) (line : List ℕ) (said : g.Line) → length xs < n → Reads g p (take n xs) s q → g.Says line said → g.after q said ≡ Some r
      → t ≡ s ++ said ∷ [] → Reads g p (take n (xs ++ whole line ∷ [])) t r
  next_reads n p q r xs s t line said few h says a e =
      subst (λ (z : List g.Line). Reads g p (take n (xs ++ whole line ∷ [])) z r) (sym e)
      (subst (λ (ys : List LineText). Reads g p ys (s ++ said ∷ []) r) (sym (take_end n xs (whole line) few)) (reads_said p q r (take n xs) s line said h says a))

  pub blank_reads : (n : ℕ) (p q : g.Place) (xs : List LineText) (s : List g.Line) (line : List ℕ) → length xs < n → Reads g p (take n xs) s q → IsBlankLine line
      → Reads g p (take n (xs ++ whole line ∷ [])) s q
  blank_reads n p q xs s line few h b =
      subst (λ (ys : List LineText). Reads g p ys s q) (sym (take_end n xs (whole line) few)) (reads_blank p q (take n xs) s line h b)

  -- a first number stays the first whatever follows
  first_stays : (count : ℕ) (xs : List LineText) (x : LineText) (k n : ℕ) → IsFirstUnlisted g count xs k n → IsFirstUnlisted g count (xs ++ x ∷ []) k n
  first_stays count xs x k n h = record {
    before = h.before;
    line = h.line;
    there = h.there;
    saids = h.saids;
    come = h.come;
    reads = h.reads;
    listed = h.listed;
    said = h.said;
    says = h.says;
    known = h.known;
    more = h.more;
    numbers = h.numbers;
    known_listed = h.known_listed;
    unlisted = h.unlisted;
    behind = h.behind ++ x ∷ [];
    whole = ap (λ ys. ys ++ x ∷ []) h.whole ∙ append_assoc h.before (whole h.line ∷ h.behind) (x ∷ []);
  }

  knows_more : (count : ℕ) (xs : List LineText) (x : LineText) (s t : List g.Line) (u : Unlisted) → KnowsListed g count xs s (Some u) → KnowsListed g count (xs ++ x ∷ []) t (Some u)
  knows_more count xs x s t u h = first_stays count xs x u.line u.number h

  knows_then : (count k : ℕ) (xs : List LineText) (s t : List g.Line) (q : g.Place) (line : List ℕ) (said : g.Line) (u : Option Unlisted) (o : Option ℕ)
      → k ≡ length xs + 1 → Reads g g.opening xs s q → g.Says line said → t ≡ s ++ said ∷ [] → KnowsListed g count xs s u
      → HasFirst count (g.numbers_of said) o
      → KnowsListed g count (xs ++ whole line ∷ []) t (unlisted_then u o k)
  knows_then count k xs s t q line said (Some u) o place h says e known f = knows_more count xs (whole line) s t u known
  knows_then count k xs s t q line said None None place h says e known f =
      subst (AreListed g count) (sym e) (All-push (λ l. All (IsLaw count) (g.numbers_of l)) s said known f)
  knows_then count k xs s t q line said None (Some n) place h says e known f = record {
    before = xs;
    line = line;
    behind = [];
    whole = refl;
    there = place;
    saids = s;
    come = q;
    reads = h;
    listed = known;
    said = said;
    says = says;
    known = f.known;
    more = f.more;
    numbers = f.whole;
    known_listed = f.listed;
    unlisted = f.unlisted;
  }

  pub next_knows : (limit count k : ℕ) (xs : List LineText) (s t : List g.Line) (q : g.Place) (line : List ℕ) (said : g.Line) (u : Option Unlisted) (o : Option ℕ)
      → length xs < limit → k ≡ length xs + 1 → Reads g g.opening (take limit xs) s q → g.Says line said → t ≡ s ++ said ∷ [] → KnowsListed g count (take limit xs) s u
      → HasFirst count (g.numbers_of said) o
      → KnowsListed g count (take limit (xs ++ whole line ∷ [])) t (unlisted_then u o k)
  next_knows limit count k xs s t q line said u o few place h says e known f =
      subst (λ (ys : List LineText). KnowsListed g count ys t (unlisted_then u o k)) (sym (take_end limit xs (whole line) few))
      (knows_then count k (take limit xs) s t q line said u o (place ∙ ap (λ (ys : List LineText). length ys + 1) (sym (take_all limit xs (omega arith)))) h says e known f)

  blank_then : (count : ℕ) (xs : List LineText) (x : LineText) (s : List g.Line) (u : Option Unlisted) → KnowsListed g count xs s u → KnowsListed g count (xs ++ x ∷ []) s u
  blank_then count xs x s None h = h
  blank_then count xs x s (Some u) h = knows_more count xs x s s u h

  pub blank_knows : (limit count : ℕ) (xs : List LineText) (x : LineText) (s : List g.Line) (u : Option Unlisted) → length xs < limit → KnowsListed g count (take limit xs) s u
      → KnowsListed g count (take limit (xs ++ x ∷ [])) s u
  blank_knows limit count xs x s u few h =
      subst (λ (ys : List LineText). KnowsListed g count ys s u) (sym (take_end limit xs x few)) (blank_then count (take limit xs) x s u h)

  -- a bad line stays bad whatever follows
  pub bad_stays : (xs : List LineText) (x : LineText) (k : ℕ) → IsBadLine g xs k → IsBadLine g (xs ++ x ∷ []) k
  bad_stays xs x k h = record {
    before = h.before;
    line = h.line;
    place = h.place;
    few = h.few;
    saids = h.saids;
    come = h.come;
    reads = h.reads;
    bad = h.bad;
    behind = h.behind ++ x ∷ [];
    whole = ap (λ ys. ys ++ x ∷ []) h.whole ∙ append_assoc h.before (h.line ∷ h.behind) (x ∷ []);
  }

  -- what says a line that may not follow has no place
  pub no_place : (place : g.Place) (line : List ℕ) (said : g.Line) → g.Says line said → g.after place said ≡ None → HasNoPlace g place (whole line)
  no_place place line said says none = (λ b. one.blank_line line said b says, λ l s. ap (g.after place) (one.one_line line l said s says) ∙ none)

  -- past the limit, or with a bad line, nothing is read
  pub more_reads : (limit : ℕ) (p q : g.Place) (xs : List LineText) (x : LineText) (s : List g.Line) → limit ≤ length xs → Reads g p (take limit xs) s q → Reads g p (take limit (xs ++ x ∷ [])) s q
  more_reads limit p q xs x s many h = subst (λ (ys : List LineText). Reads g p ys s q) (sym (take_more limit xs x many)) h

  pub more_knows : (limit count : ℕ) (xs : List LineText) (x : LineText) (s : List g.Line) (u : Option Unlisted) → limit ≤ length xs → KnowsListed g count (take limit xs) s u → KnowsListed g count (take limit (xs ++ x ∷ [])) s u
  more_knows limit count xs x s u many h = subst (λ (ys : List LineText). KnowsListed g count ys s u) (sym (take_more limit xs x many)) h
