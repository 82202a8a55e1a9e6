-- What stands under other names than the chosen one.
use Rattle.std.proofs.Common.{Option, Some, None, refl, sym, ◌∙◌, subst}
use Rattle.crash_disk.specs.Names.{Names, StaysBeside}

pub beside_itself : (told : Option Names) → StaysBeside told told
beside_itself None = refl
beside_itself (Some names) = record { chosen = refl; others = λ name differ. refl }

pub beside-trans : (old mid new : Option Names) → StaysBeside old mid → StaysBeside mid new → StaysBeside old new
beside-trans None mid new first second = subst (λ (o : Option Names). StaysBeside o new) first second
beside-trans (Some before) None new first second = absurd first
beside-trans (Some before) (Some between) None first second = absurd second
beside-trans (Some before) (Some between) (Some now) first second = record {
  chosen = second.chosen ∙ first.chosen;
  others = λ name differ. second.others name (λ e. differ (sym first.chosen ∙ e)) ∙ first.others name differ;
}
