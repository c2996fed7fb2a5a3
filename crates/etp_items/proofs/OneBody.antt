-- Lines are one body.
use Rattle.std.proofs.Common.{◌≡◌, List, [], ◌∷◌, map, refl, sym, ap, ◌∙◌, None, Some}
use Rattle.etp_io.specs.Texts.{LineText}
use Rattle.etp_reading.proofs.Theorems.{reading_theorems}
use Rattle.etp_lines.specs.ProofLines.{ProofLine}
use Rattle.etp_lines.specs.BodyLines.{Line, of_proofs, proof_line, opening, bodies}
use Rattle.etp_lines.specs.Claims.{Claims}
use Rattle.etp_items.specs.Bodies.{ProofBody, Model, FileBody, proof, model}
use Rattle.etp_items.specs.Reading.{proof_lines, SaysClaimed, SaysBody, IsBody}
use Rattle.etp_lines.proofs.OneLine.{one}
use Rattle.etp_items.proofs.OneProof.{one_proof}
use Rattle.etp_items.proofs.OneModel.{model_in, model_is, one_model}

-- the lines of proofs among lines
abbrev pub proof_lines_in : List Line → List ProofLine
proof_lines_in [] = []
proof_lines_in ((of_proofs, l) ∷ ls) = l ∷ proof_lines_in ls
proof_lines_in (_ ∷ ls) = proof_lines_in ls

pub lines_in : (ls : List ProofLine) → proof_lines_in (map proof_line ls) ≡ ls
lines_in [] = refl
lines_in (l ∷ ls) = ap (λ z. l ∷ z) (lines_in ls)

-- a proof tells no magma
no_model : (saids : List Line) (p : ProofBody) (m : Model) (c : Claims) → SaysBody saids (proof p) → SaysClaimed saids m c → ⊥
no_model saids p m c (v, h) s = none_some m (sym (ap model_in h) ∙ model_is saids m c s)
  where
    none_some : (m : Model) → None ≡ Some m → ⊥
    none_some m e = cc

one_said : (saids : List Line) (b c : FileBody) → SaysBody saids b → SaysBody saids c → b ≡ c
one_said saids (proof p) (proof q) (v, h) (w, k) =
    ap proof (one_proof v w p q
    (sym (lines_in (proof_lines v p)) ∙ ap proof_lines_in (sym h ∙ k) ∙ lines_in (proof_lines w q)))
one_said saids (proof p) (model m c) h s = absurd (no_model saids p m c h s)
one_said saids (model m c) (proof p) s h = absurd (no_model saids p m c h s)
one_said saids (model m c) (model n d) s t =
    let same = one_model saids m n c d s t in ap (λ z. model z c) same.0 ∙ ap (model n) same.1

pub one_body : (lines : List LineText) (b c : FileBody) → IsBody lines b → IsBody lines c → b ≡ c
one_body lines b c h k =
    let same = (reading_theorems bodies one).one_reading opening lines h.saids k.saids h.are_whole.come k.are_whole.come h.are_whole.reads k.are_whole.reads in
    one_said k.saids b c (rw same.0 at h.says) k.says
