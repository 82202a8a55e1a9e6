-- Where two logs differ.
use Rattle.std.proofs.Common.{◌≡◌, Bool, true, false, Option, Some, None, ap, sym, ◌∙◌, Bor}
use Rattle.std.specs.Option.{option_copied}
use Rattle.std.proofs.lemmas.Bool.{cond-true, cond-false}
use Rattle.phase_message.specs.declared.post.Post.{Post}
use Rattle.phase_message.specs.declared.stage.Slot.{Slot}
use Rattle.stage_log.specs.Table.{Log, kept_in}
use Rattle.go_nogo.specs.Differences.{are_different, differing}

-- whether the posts of a slot differ is told by what the logs keep there
told : (log other : Log) (slot : Slot) (o p : Option (Bor Post)) (r b : Bool) → option_copied o ≡ kept_in log slot
    → option_copied p ≡ kept_in other slot
    → r ≡ are_different (option_copied o) (option_copied p) → r ≡ b → are_different (kept_in log slot) (kept_in other slot) ≡ b
told log other slot o p r b e e' is be =
    sym (ap (λ (k : Option Post). are_different k (option_copied p)) e ∙ ap (λ (k : Option Post). are_different (kept_in log slot) k) e')
    ∙ sym is ∙ be

pub differing-some : (log other : Log) (slot : Slot) (o p : Option (Bor Post)) (r : Bool) → option_copied o ≡ kept_in log slot
    → option_copied p ≡ kept_in other slot
    → r ≡ are_different (option_copied o) (option_copied p) → r ≡ true → differing log other slot ≡ Some slot
differing-some log other slot o p r e e' is be =
    cond-true (are_different (kept_in log slot) (kept_in other slot)) (Some slot) None (told log other slot o p r true e e' is be)

pub differing-none : (log other : Log) (slot : Slot) (o p : Option (Bor Post)) (r : Bool) → option_copied o ≡ kept_in log slot
    → option_copied p ≡ kept_in other slot
    → r ≡ are_different (option_copied o) (option_copied p) → r ≡ false → differing log other slot ≡ None
differing-none log other slot o p r e e' is be =
    cond-false (are_different (kept_in log slot) (kept_in other slot)) (Some slot) None (told log other slot o p r false e e' is be)
