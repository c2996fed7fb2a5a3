-- Facts of a result that follow from others.
use Rattle.std.specs.Prelude.{OnOk, Ok, Err, Result}

pub OnOk-then : {A E : Type 0} (r : Result A E) (P Q : Type 0) → (P → Q) → OnOk r P → OnOk r Q
OnOk-then (Ok x) P Q f h = f h
OnOk-then (Err e) P Q f h = tt
