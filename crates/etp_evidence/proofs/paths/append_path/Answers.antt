use Rattle.std.proofs.Common.{List, ℕ, ◌∷◌, [], ◌++◌, sym, ◌∙◌, ap, append_assoc}
use Rattle.etp_print.specs.EvidenceTexts.{edge_line}
use Rattle.etp_evidence.proofs.EdgeLines.{edge_next}
use Rattle.etp_evidence.proofs.paths.append_path.Goals as goal

pub edges-preserved : goal.edges-preserved
edges-preserved c =
    edge_next c.args.ledger.now.files c.args.path.now c.edges.at c.in-Some.edge.now c.args.text.now c.edges.text c.append.new.self (sym c.in-Some.ensures) c.edges.invariant
    (c.in_ok-append.ensures.ok ∙ ap (λ (t : List ℕ). t ++ 10 ∷ []) c.in_ok-append_edge.ensures
    ∙ append_assoc c.edges.text (edge_line c.in-Some.edge.now c.name_at.result.now) (10 ∷ [])
    ∙ ap (λ (name : List ℕ). c.edges.text ++ (edge_line c.in-Some.edge.now name ++ 10 ∷ [])) c.name_at.ensures)
