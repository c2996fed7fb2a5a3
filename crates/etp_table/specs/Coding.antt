-- The values that models are seen as, coded in numbers and lists.
use Rattle.std.specs.Prelude.{ℕ, List, refl}
use Rattle.std.specs.Coded.{Coded, code_by, coded×, coded_ℕ, coded_list}
use Rattle.etp_table.specs.Tables.{Table}

abbrev pub coded_table : Coded Table
coded_table =
    code_by (ℕ × List ℕ) (coded× coded_ℕ (coded_list coded_ℕ))
    (λ t. (t.size, t.entries)) (λ p. record { size = p.0; entries = p.1 }) (λ _. refl)
