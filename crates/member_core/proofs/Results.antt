-- What follows of what a call answers.
use Rattle.std.proofs.Common.{Result, Ok, Err}
use Rattle.std.specs.Prelude.{IfOk}

-- of three answers that are told
pub if-three : {A E : Type 0} (P Q R S : A → Type 0) (r : Result A E) → ((x : A) → P x → Q x → R x → S x) → IfOk r P → IfOk r Q → IfOk r R
    → IfOk r S
if-three P Q R S (Ok x) step p q r' = step x p q r'
if-three P Q R S (Err e) step p q r' = p
