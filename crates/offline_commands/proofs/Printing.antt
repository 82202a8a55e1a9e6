-- How what is printed goes together.
use Rattle.std.proofs.Common.{inr, refl, ◌∙◌, ap, ℕ, List, [], ◌++◌, Option, Some, None, append_assoc, subst}
use Rattle.offline_commands.specs.declared.status.Status.{Status}
use Rattle.offline_commands.specs.declared.status.Status.TheVariants.{OutOfMemory}
use Rattle.offline_commands.specs.Outside.{Gains, GainsFirstOf}
use Rattle.offline_commands.specs.Status.{status_line}
use Rattle.offline_commands.specs.Delivery.{DeliversText}

-- two gains, one after the other
pub gains_both : (old middle new : Option (List ℕ)) (first second : List ℕ) → Gains old middle first → Gains middle new second
    → Gains old new (first ++ second)
gains_both None middle new first second g h = tt
gains_both (Some before) middle new first second g h =
    let h' : Gains (Some (before ++ first)) new second = subst (λ m. Gains m new second) g h in
    h' ∙ ap Some (append_assoc before first second)

-- memory was wanting after some of a text
pub broken_off : (fault : Type 0) (old middle new : Option (List ℕ)) (expected : Status) (text : List ℕ)
    → GainsFirstOf old middle text → GainsFirstOf middle new (status_line OutOfMemory)
    → DeliversText fault old new expected text OutOfMemory
broken_off fault old middle new expected text (front, first, g) (back, second, h) =
    (front ++ back, gains_both old middle new front back g h, inr (inr (refl, (front, back, first, second, refl))))

-- memory was wanting before anything of a text
pub broken_at_once : (fault : Type 0) (old new : Option (List ℕ)) (expected : Status) (text : List ℕ)
    → GainsFirstOf old new (status_line OutOfMemory) → DeliversText fault old new expected text OutOfMemory
broken_at_once fault old new expected text (back, second, h) =
    (back, h, inr (inr (refl, ([], back, (text, refl), second, refl))))
