use Rattle.round_spec.proofs.Deliveries.{first-posts-grow, first_posts_contained, idle_changes_nothing, least-ending-grows}
use Rattle.round_spec.proofs.laws.delivery_laws.Goals as goal

pub returns-clause-first_posts : goal.returns-clause-first_posts
returns-clause-first_posts c = first-posts-grow

pub returns-clause-contained : goal.returns-clause-contained
returns-clause-contained c = first_posts_contained

pub returns-clause-least_ending : goal.returns-clause-least_ending
returns-clause-least_ending c = least-ending-grows

pub returns-clause-idle : goal.returns-clause-idle
returns-clause-idle c = idle_changes_nothing
