-- What ties the lines of bodies, their tally and their refusals together.
use Rattle.std.specs.Prelude.{◌≡◌, ◌≤◌, ◌<◌, ◌+◌, ℕ, Bool, List, [], ◌∷◌, ◌++◌, Option, Some, None, MatchOption}
use Rattle.etp_io.specs.Texts.{LineText, whole}
use Rattle.etp_words.specs.Words.{IsBlankLine}
use Rattle.etp_reading.specs.Grammars.{Grammar}
use Rattle.etp_reading.specs.Reading.{Reads, AreRead, Refuses, HasNoPlace, line_limit}
use Rattle.etp_reading.specs.Tallies.{HasTallied, HasFirst, Judges, lines_then, unlisted_then}
use Rattle.etp_reading.specs.declared.refusal.BodyRefusal.{BodyRefusal}
use Rattle.etp_reading.specs.declared.tally.Tally.{Tally}

module _ (g : Grammar) where
  -- lines have one reading or one refusal
  pub record ReadingTheorems : Type 0 where
    pub one_reading : (p : g.Place) (xs : List LineText) (s t : List g.Line) (q r : g.Place)
        → Reads g p xs s q → Reads g p xs t r → (s ≡ t) × (q ≡ r)
    -- lines that are closed and whole, with listed numbers, aren't refused
    pub read_or_refused : (count : ℕ) (lines : List LineText) (closed : Bool) (saids : List g.Line)
        (r : BodyRefusal) → AreRead g count lines closed saids → ¬ Refuses g count lines closed r
    -- and lines that are refused have one refusal
    pub one_refusal : (count : ℕ) (lines : List LineText) (closed : Bool) (r s : BodyRefusal)
        → Refuses g count lines closed r → Refuses g count lines closed s → r ≡ s

  -- how a tally goes on with one line more, and what it tells at the end
  pub record TallyTheorems : Type 0 where
    pub begun : (tally : Tally) → tally.lines ≡ 0 → tally.bad ≡ None → tally.unlisted ≡ None
        → HasTallied g tally [] g.opening []
    -- behind a bad line, or past the limit, lines are counted alone
    pub skipped : (tally : Tally) (saids : List g.Line) (come : g.Place) (xs : List LineText) (x : LineText)
        → HasTallied g tally saids come xs → (tally.bad ≡ None → line_limit ≤ tally.lines)
        → HasTallied g (record tally { lines = lines_then tally.lines }) saids come (xs ++ x ∷ [])
    pub blank : (tally : Tally) (saids : List g.Line) (come : g.Place) (xs : List LineText) (line : List ℕ)
        → HasTallied g tally saids come xs → tally.bad ≡ None → tally.lines < line_limit
        → IsBlankLine line
        → HasTallied g (record tally { lines = lines_then tally.lines }) saids come (xs ++ whole line ∷ [])
    pub said : (tally : Tally) (saids more : List g.Line) (come next : g.Place) (xs : List LineText)
        (line : List ℕ) (said : g.Line) (number : Option ℕ)
        → HasTallied g tally saids come xs → tally.bad ≡ None → tally.lines < line_limit
        → g.Says line said → g.after come said ≡ Some next → more ≡ saids ++ said ∷ []
        → HasFirst tally.count (g.numbers_of said) number
        → HasTallied g (record tally {
          lines = lines_then tally.lines;
          unlisted = unlisted_then tally.unlisted number (tally.lines + 1);
        }) more next (xs ++ whole line ∷ [])
    pub bad : (tally : Tally) (saids other : List g.Line) (come there : g.Place) (xs : List LineText)
        (x : LineText) → HasTallied g tally saids come xs → tally.bad ≡ None → tally.lines < line_limit
        → HasNoPlace g come x
        → HasTallied g (record tally {
          lines = lines_then tally.lines;
          bad = Some (lines_then tally.lines);
        }) other there (xs ++ x ∷ [])
    -- what says a line that may not follow has no place
    pub no_place : (place : g.Place) (line : List ℕ) (said : g.Line) → g.Says line said
        → g.after place said ≡ None → HasNoPlace g place (whole line)
    pub judged : (tally : Tally) (saids : List g.Line) (come : g.Place) (xs : List LineText)
        (closed : Bool) (verdict : Option BodyRefusal)
        → HasTallied g tally saids come xs → Judges tally closed (g.is_complete come) verdict
        → MatchOption verdict (AreRead g tally.count xs closed saids) (Refuses g tally.count xs closed)
