use Rattle.std.proofs.Common.{◌≡◌, ◌<◌, ℕ, get_or}
use Rattle.etp_chain.specs.Searches.{Grows, IsSpread, IsFound, Leads}
use Rattle.etp_chain.proofs.searches.spread.Given as goal

abbrev pub invariant-loop-law : goal.invariant-loop-law
invariant-loop-law l = record {
  grows : Grows l.initial.found l.found l.initial.next.items l.next.items;
  spread : (start : ℕ) → IsSpread l.from.laws.items l.to.laws.items start l.code l.initial.found l.level l.initial.next.items
      → IsSpread l.from.laws.items l.to.laws.items start l.code l.found l.level l.next.items;
  done : (a b k : ℕ) → Leads l.from.laws.items l.to.laws.items a b → k < l.law-index → get_or l.level k 0 ≡ a → IsFound l.found b;
}
