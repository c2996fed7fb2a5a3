-- The lines of edges, one by one.
use Rattle.std.proofs.Common.{◌≡◌, ℕ, ◌+◌, ◌<◌, List, [], ◌∷◌, ◌++◌, append_assoc, length, take, get_or, add-one, Some, refl, sym, ◌∙◌, ap, slice_get}
use Rattle.std.proofs.Math.Seq.{take-suc}
use Rattle.std.proofs.lemmas.Option.{slice_get_within, slice_get-get_or, same_Some}
use Rattle.etp_chain.specs.declared.evidence.Edge.{Edge}
use Rattle.etp_ledger.specs.Files.{File}
use Rattle.etp_print.specs.EvidenceTexts.{edge_line}
use Rattle.etp_evidence.specs.WhyReplies.{name_at, edge_lines}

-- the line of an edge
abbrev pub line_of : List File → Edge → List ℕ
line_of files edge = edge_line edge (name_at files edge.file) ++ 10 ∷ []

edges-more : (files : List File) (path : List Edge) (edge : Edge) → edge_lines files (path ++ edge ∷ []) ≡ edge_lines files path ++ line_of files edge
edges-more files [] edge = refl
edges-more files (first ∷ path) edge =
    let name = name_at files first.file in
    ap (λ (l : List ℕ). edge_line first name ++ 10 ∷ l) (edges-more files path edge)
    ∙ sym (append_assoc (edge_line first name) (10 ∷ edge_lines files path) (line_of files edge))

take-next : (path : List Edge) (at : ℕ) (edge : Edge) → slice_get path at ≡ Some edge → take (at + 1) path ≡ take at path ++ edge ∷ []
take-next path at edge h =
    let inside : at < length path = slice_get_within path at edge h in
    let x : get_or path at edge ≡ edge = same_Some _ _ (sym (slice_get-get_or path at edge inside) ∙ h) in
    rw add-one (take-suc path at edge inside ∙ ap (λ (y : Edge). take at path ++ y ∷ []) x)

-- one line more
pub edge_next : (files : List File) (path : List Edge) (at : ℕ) (edge : Edge) (old text put : List ℕ) → slice_get path at ≡ Some edge
    → text ≡ old ++ edge_lines files (take at path) → put ≡ text ++ line_of files edge → put ≡ old ++ edge_lines files (take (at + 1) path)
edge_next files path at edge old text put h before more =
    more ∙ ap (λ (l : List ℕ). l ++ line_of files edge) before
    ∙ append_assoc old (edge_lines files (take at path)) (line_of files edge)
    ∙ ap (λ (l : List ℕ). old ++ l) (sym (ap (edge_lines files) (take-next path at edge h) ∙ edges-more files (take at path) edge))
