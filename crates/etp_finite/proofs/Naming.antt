-- Files by their names, as the map keeps them and as they are spoken of.
use Rattle.std.proofs.Common.{◌≡◌, ◌≢◌, ℕ, zero, suc, ◌+◌, not, nat_lt, true≢false, slice_get, length, position, List, [], ◌∷◌, ◌++◌, Bool, true, false, cond, Option, Some, None, refl, sym, ap, ◌∙◌}
use Rattle.std.specs.Option.{option_map, option_copied}
use Rattle.std.specs.Borrow.{Bor}
use Rattle.std.specs.List.{position_or_len}
use Rattle.std.specs.Map.{lookup, keys_of, values_of}
use Rattle.std.specs.Cmp.Lexicographic.{bytes_decides}
use Rattle.std.specs.Str.{bytes_eq}
use Rattle.std.specs.declared.vec.Vec.{Vec}
use Rattle.etp_finite_body.specs.FiniteBodies.{FiniteFileBody, finite_body_of}
use Rattle.etp_finite_check.specs.FiniteChecks.{fact_said}
use Rattle.etp_finite.specs.Files.{File, is_named, body_named, facts_of}
use Rattle.etp_finite.proofs.Lists.{map_get}
use Rattle.etp_finite.specs.Kept.{files_of}
use Rattle.etp_finite.specs.declared.kept.Kept.{Kept}

module _ {A : Type 0} (name : List ℕ) where
  abbrev has_key : Vec ℕ A → Bool
  has_key k = bytes_eq name k.items

  -- the map finds the file of the name
  pub found : (es : List (Vec ℕ A × Kept)) → option_map (λ kept. finite_body_of kept.body) (lookup has_key es) ≡ body_named name (files_of es)
  found [] = refl
  found (e ∷ es) =
      elim (has_key e.0) as (λ b. option_map (λ kept. finite_body_of kept.body) (cond b (Some e.1) (lookup has_key es)) ≡ cond b (Some (finite_body_of e.1.body)) (body_named name (files_of es))) [ true ↦ refl | false ↦ found es ]

pub seen_body : (o : Option (Bor Kept)) → option_map (λ kept. finite_body_of kept.now.body) o ≡ option_map (λ kept. finite_body_of kept.body) (option_copied o)
seen_body None = refl
seen_body (Some kept) = refl

pub same_bytes : (xs ys : List ℕ) → bytes_eq xs ys ≡ true → xs ≡ ys
same_bytes xs ys h = (bytes_decides xs ys).0 h

pub other_bytes : (xs ys : List ℕ) → bytes_eq xs ys ≡ false → xs ≢ ys
other_bytes xs ys h e = true≢false (sym ((bytes_decides xs ys).1 e) ∙ h)

module _ {A : Type 0} where
  -- the file that is kept at a place
  pub file_at : (es : List (Vec ℕ A × Kept)) (at : ℕ) (kept : Kept) → slice_get (values_of es) at ≡ Some kept
      → (name : List ℕ) × (slice_get (files_of es) at ≡ Some (record { name = name; body = finite_body_of kept.body }))
  file_at [] at kept h = cc
  file_at (e ∷ es) zero kept h =
      let same : e.1 ≡ kept = cc in (e.0.items, ap (λ (v : Kept). Some (record { name = e.0.items; body = finite_body_of v.body })) same)
  file_at (e ∷ es) (suc at) kept h = file_at es at kept h

  pub fact_at : (es : List (Vec ℕ A × Kept)) (at : ℕ) (kept : Kept) → slice_get (values_of es) at ≡ Some kept
      → slice_get (facts_of (files_of es)) at ≡ Some (fact_said (finite_body_of kept.body))
  fact_at es at kept h =
      let there = file_at es at kept h in
      map_get (λ file. fact_said file.body) (files_of es) at (record { name = there.0; body = finite_body_of kept.body }) there.1

-- the first of two options that is there
abbrev pub or_else : Option FiniteFileBody → Option FiniteFileBody → Option FiniteFileBody
or_else None o = o
or_else (Some x) o = Some x

pub named_more : (name : List ℕ) (files : List File) (file : File) → body_named name (files ++ file ∷ []) ≡ or_else (body_named name files) (body_named name (file ∷ []))
named_more name [] file = refl
named_more name (x ∷ xs) file =
    elim (is_named name x) as (λ b. cond b (Some x.body) (body_named name (xs ++ file ∷ [])) ≡ or_else (cond b (Some x.body) (body_named name xs)) (body_named name (file ∷ []))) [ true ↦ refl | false ↦ named_more name xs file ]

-- the place of a name, by the map's keys and by the files
pub place_same : {A : Type 0} (name : List ℕ) (es : List (Vec ℕ A × Kept)) → position (λ k. bytes_eq name k.items) (keys_of es) ≡ position (is_named name) (files_of es)
place_same {A} name es = both (or_len es) (long es)
  where
    or_len : (es : List (Vec ℕ A × Kept)) → position_or_len (λ k. bytes_eq name k.items) (keys_of es) ≡ position_or_len (is_named name) (files_of es)
    or_len [] = refl
    or_len (e ∷ es) = ap (λ n. cond (not (bytes_eq name e.0.items)) (1 + n) 0) (or_len es)

    long : (es : List (Vec ℕ A × Kept)) → length (keys_of es) ≡ length (files_of es)
    long [] = refl
    long (e ∷ es) = ap suc (long es)

    both : {a b m n : ℕ} → a ≡ b → m ≡ n → cond (nat_lt a m) (Some a) None ≡ cond (nat_lt b n) (Some b) None
    both e h = cc

-- a name that no file has isn't found by the map
pub unfound : {A : Type 0} (name : List ℕ) (es : List (Vec ℕ A × Kept)) → body_named name (files_of es) ≡ None → lookup (λ k. bytes_eq name k.items) es ≡ None
unfound {A} name es none = by (lookup (λ k. bytes_eq name k.items) es) (found {A = A} name es ∙ none)
  where
    by : (o : Option Kept) → option_map (λ kept. finite_body_of kept.body) o ≡ None → o ≡ None
    by None h = refl
    by (Some kept) h = cc
