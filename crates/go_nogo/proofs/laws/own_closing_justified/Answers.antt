use Rattle.go_nogo.proofs.OneKind.{confirm-embeds, confirm-justified, final-embeds, final-justified}
use Rattle.go_nogo.proofs.laws.own_closing_justified.Goals as goal

pub returns-clause-at_final : goal.returns-clause-at_final
returns-clause-at_final c = final-justified

pub returns-clause-at_confirm : goal.returns-clause-at_confirm
returns-clause-at_confirm c = confirm-justified

pub returns-clause-final_posts : goal.returns-clause-final_posts
returns-clause-final_posts c = final-embeds

pub returns-clause-confirm_posts : goal.returns-clause-confirm_posts
returns-clause-confirm_posts c = confirm-embeds
