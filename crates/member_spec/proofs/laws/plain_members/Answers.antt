use Rattle.member_spec.proofs.PlainLaws.{plain_comes_to_result, plain_ends_once, plain_posts_are_said, plain_run_is_honest}
use Rattle.member_spec.proofs.Room.{plain_keeps_at_most}
use Rattle.member_spec.proofs.laws.plain_members.Goals as goal

pub returns-clause-result : goal.returns-clause-result
returns-clause-result c = plain_comes_to_result

pub returns-clause-honest : goal.returns-clause-honest
returns-clause-honest c = plain_run_is_honest

pub returns-clause-ends_once : goal.returns-clause-ends_once
returns-clause-ends_once c = plain_ends_once

pub returns-clause-said : goal.returns-clause-said
returns-clause-said c = plain_posts_are_said

pub returns-clause-room : goal.returns-clause-room
returns-clause-room c = plain_keeps_at_most
