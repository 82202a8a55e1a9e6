-- What holds of an answer, by what holds of it already.
use Rattle.std.proofs.Common.{Result, Ok, Err}
use Rattle.std.specs.Prelude.{IfErr, IfOk, OnOk}

pub ok-by : {A E : Type 0} (P Q R : Type 0) (r : Result A E) → (P → Q → R) → OnOk r P → OnOk r Q → IfOk r (λ _. R)
ok-by P Q R (Ok x) step p q = step p q
ok-by P Q R (Err e) step p q = tt

pub err-by : {A E : Type 0} (P Q : E → Type 0) (r : Result A E) → ((e : E) → P e → Q e) → IfErr r P → IfErr r Q
err-by P Q (Ok x) step p = tt
err-by P Q (Err e) step p = step e p
