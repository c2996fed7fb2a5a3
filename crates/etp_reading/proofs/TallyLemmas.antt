-- A tally with one line more, and at its end.
use Rattle.std.proofs.Common.{◌≡◌, ℕ, ◌+◌, ◌<◌, ◌≤◌, min, arith, Bool, List, [], ◌∷◌, ◌++◌, length, take, All, MatchOption, refl, sym, ap, subst, Option, Some, None, length-append}
use Rattle.std.proofs.lemmas.List.{take_all}
use Rattle.std.proofs.lemmas.List.Elements.{All-nil}
use Rattle.std.proofs.lemmas.Bool.{and_parts}
use Rattle.etp_theory.specs.LawNumbers.{IsLaw}
use Rattle.etp_io.specs.Texts.{LineText, whole}
use Rattle.etp_words.specs.Words.{IsBlankLine}
use Rattle.etp_reading.specs.Grammars.{Grammar, OneLine}
use Rattle.etp_reading.specs.Reading.{Reads, AreRead, Refuses, HasNoPlace, IsFirstUnlisted, line_limit}
use Rattle.etp_reading.specs.Tallies.{HasTallied, HasGoodLines, HasFound, KnowsListed, HasFirst, Judges, lines_then, unlisted_then}
use Rattle.etp_reading.specs.declared.refusal.BodyRefusal.{BodyRefusal}
use Rattle.etp_reading.specs.declared.refusal.BodyRefusal.TheVariants.{BadLine, UnknownLaw, TooManyLines, Unfinished}
use Rattle.etp_reading.specs.declared.tally.Tally.{Tally}
use Rattle.etp_reading.proofs.ReadingLemmas.{next_reads, blank_reads, next_knows, blank_knows, more_reads, more_knows, bad_stays}

counted_next : (xs : List LineText) (x : LineText) (n : ℕ) → n ≡ min (length xs) (line_limit + 1) → lines_then n ≡ min (length (xs ++ x ∷ [])) (line_limit + 1)
counted_next xs x n e = omega (arith, length-append xs (x ∷ []))

module _ (g : Grammar) (one : OneLine g) where
  pub begun : (t : Tally) → t.lines ≡ 0 → t.bad ≡ None → t.unlisted ≡ None → HasTallied g t [] g.opening []
  begun t lines bad unlisted = record {
    counted = lines;
    found = subst (HasFound g t [] g.opening []) (sym bad) (record {
      reads = (refl, refl);
      listed = subst (KnowsListed g t.count [] []) (sym unlisted) (All-nil (λ l. All (IsLaw t.count) (g.numbers_of l)));
    });
  }

  good_lines : (t : Tally) (s : List g.Line) (p : g.Place) (xs : List LineText) → HasTallied g t s p xs → t.bad ≡ None → HasGoodLines g t s p xs
  good_lines t s p xs h e = subst (HasFound g t s p xs) e h.found

  few_lines : (t : Tally) (s : List g.Line) (p : g.Place) (xs : List LineText) → HasTallied g t s p xs → t.lines ≤ line_limit → length xs ≡ t.lines
  few_lines t s p xs h few = omega (arith, h.counted)

  within_limit : (t : Tally) (s : List g.Line) (p : g.Place) (xs : List LineText) → HasGoodLines g t s p xs → length xs ≤ line_limit → Reads g g.opening xs s p
  within_limit t s p xs good few = subst (λ (ys : List LineText). Reads g g.opening ys s p) (take_all line_limit xs few) good.reads

  skip : (t : Tally) (s : List g.Line) (p : g.Place) (xs : List LineText) (x : LineText) (bad : Option ℕ) → (bad ≡ None → line_limit ≤ length xs)
      → HasFound g t s p xs bad → HasFound g (record t { lines = lines_then t.lines }) s p (xs ++ x ∷ []) bad
  skip t s p xs x None many good = record {
    reads = more_reads g one line_limit g.opening p xs x s (many refl) good.reads;
    listed = more_knows g one line_limit t.count xs x s t.unlisted (many refl) good.listed;
  }
  skip t s p xs x (Some k) many h = bad_stays g one xs x k h

  pub skipped : (t : Tally) (s : List g.Line) (p : g.Place) (xs : List LineText) (x : LineText) → HasTallied g t s p xs → (t.bad ≡ None → line_limit ≤ t.lines)
      → HasTallied g (record t { lines = lines_then t.lines }) s p (xs ++ x ∷ [])
  skipped t s p xs x h many = record {
    counted = counted_next xs x t.lines h.counted;
    found = skip t s p xs x t.bad (λ e. let m : line_limit ≤ t.lines = many e in omega (arith, h.counted, m)) h.found;
  }

  pub blank : (t : Tally) (s : List g.Line) (p : g.Place) (xs : List LineText) (line : List ℕ) → HasTallied g t s p xs → t.bad ≡ None → t.lines < line_limit → IsBlankLine line
      → HasTallied g (record t { lines = lines_then t.lines }) s p (xs ++ whole line ∷ [])
  blank t s p xs line h none few b =
      let long : length xs ≡ t.lines = few_lines t s p xs h (omega arith) in
      let good = good_lines t s p xs h none in
      let short : length xs < line_limit = omega arith in
      record {
        counted = counted_next xs (whole line) t.lines h.counted;
        found = subst (HasFound g (record t { lines = lines_then t.lines }) s p (xs ++ whole line ∷ [])) (sym none) (record {
          reads = blank_reads g one line_limit g.opening p xs s line short good.reads b;
          listed = blank_knows g one line_limit t.count xs (whole line) s t.unlisted short good.listed;
        });
      }

  pub said : (t : Tally) (s m : List g.Line) (p q : g.Place) (xs : List LineText) (line : List ℕ) (l : g.Line) (o : Option ℕ)
      → HasTallied g t s p xs → t.bad ≡ None → t.lines < line_limit → g.Says line l → g.after p l ≡ Some q → m ≡ s ++ l ∷ []
      → HasFirst t.count (g.numbers_of l) o
      → HasTallied g (record t { lines = lines_then t.lines; unlisted = unlisted_then t.unlisted o (t.lines + 1) }) m q (xs ++ whole line ∷ [])
  said t s m p q xs line l o h none few says a e f =
      let long : length xs ≡ t.lines = few_lines t s p xs h (omega arith) in
      let good = good_lines t s p xs h none in
      let short : length xs < line_limit = omega arith in
      let next : t.lines + 1 ≡ length xs + 1 = ap (λ n. n + 1) (sym long) in
      record {
        counted = counted_next xs (whole line) t.lines h.counted;
        found = subst (HasFound g (record t { lines = lines_then t.lines; unlisted = unlisted_then t.unlisted o (t.lines + 1) }) m q (xs ++ whole line ∷ [])) (sym none) (record {
          reads = next_reads g one line_limit g.opening p q xs s m line l short good.reads says a e;
          listed = next_knows g one line_limit t.count (t.lines + 1) xs s m p line l t.unlisted o short next good.reads says e good.listed f;
        });
      }

  pub bad : (t : Tally) (s m : List g.Line) (p q : g.Place) (xs : List LineText) (x : LineText) → HasTallied g t s p xs → t.bad ≡ None → t.lines < line_limit → HasNoPlace g p x
      → HasTallied g (record t { lines = lines_then t.lines; bad = Some (lines_then t.lines) }) m q (xs ++ x ∷ [])
  bad t s m p q xs x h none few there =
      let long : length xs ≡ t.lines = few_lines t s p xs h (omega arith) in
      record {
        counted = counted_next xs x t.lines h.counted;
        found = record {
          before = xs;
          line = x;
          behind = [];
          whole = refl;
          place = omega arith;
          few = omega arith;
          saids = s;
          come = p;
          reads = within_limit t s p xs (good_lines t s p xs h none) (omega arith);
          bad = there;
        };
      }

  pub judged : (t : Tally) (s : List g.Line) (p : g.Place) (xs : List LineText) (closed : Bool) (o : Option BodyRefusal)
      → HasTallied g t s p xs → Judges t closed (g.is_complete p) o → MatchOption o (AreRead g t.count xs closed s) (Refuses g t.count xs closed)
  judged t s p xs closed (Some (BadLine line)) h j = subst (HasFound g t s p xs) j h.found
  judged t s p xs closed (Some (TooManyLines line)) h j =
      let good = good_lines t s p xs h j.0 in
      let many : line_limit < t.lines = j.1 in
      record {
        next = omega (arith, h.counted, j.2);
        many = omega (arith, h.counted);
        saids = s;
        come = p;
        reads = good.reads;
      }
  judged t s p xs closed (Some (Unfinished line)) h j =
      let few : t.lines ≤ line_limit = j.0.1 in
      let long : length xs ≡ t.lines = few_lines t s p xs h few in
      record {
        few = omega arith;
        next = omega (arith, j.2);
        saids = s;
        come = p;
        reads = within_limit t s p xs (good_lines t s p xs h j.0.0) (omega arith);
        open_end = j.1;
      }
  judged t s p xs closed (Some (UnknownLaw line number)) h j =
      let few : t.lines ≤ line_limit = j.0.1 in
      let long : length xs ≡ t.lines = few_lines t s p xs h few in
      let good = good_lines t s p xs h j.0.0 in
      let short : length xs ≤ line_limit = omega arith in
      let both = and_parts closed (g.is_complete p) j.1 in
      record {
        is_closed = both.0;
        few = short;
        saids = s;
        are_whole = record { come = p; reads = within_limit t s p xs good short; complete = both.1 };
        first = subst (λ (ys : List LineText). IsFirstUnlisted g t.count ys line number) (take_all line_limit xs short)
            (subst (KnowsListed g t.count (take line_limit xs) s) j.2 good.listed);
      }
  judged t s p xs closed None h j =
      let few : t.lines ≤ line_limit = j.0.1 in
      let long : length xs ≡ t.lines = few_lines t s p xs h few in
      let good = good_lines t s p xs h j.0.0 in
      let short : length xs ≤ line_limit = omega arith in
      let both = and_parts closed (g.is_complete p) j.1 in
      record {
        is_closed = both.0;
        few = short;
        are_whole = record { come = p; reads = within_limit t s p xs good short; complete = both.1 };
        listed = subst (KnowsListed g t.count (take line_limit xs) s) j.2 good.listed;
      }
