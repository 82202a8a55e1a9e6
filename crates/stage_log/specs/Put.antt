-- What becomes of a post that is put into a log.
use Rattle.std.specs.Prelude.{Option, Some, None, bytes_eq, if◌then◌else◌}
use Rattle.phase_message.specs.declared.post.Post.{Post}
use Rattle.phase_message.specs.declared.stage.Slot.{Slot}
use Rattle.stage_log.specs.declared.log.Put.{Put}
use Rattle.stage_log.specs.declared.log.Put.TheVariants.{Stored, Same, Other}
use Rattle.stage_log.specs.Table.{Log, kept_in, filled}

-- the answer where a slot holds this: it is kept where there was nothing, and else handed back
abbrev pub put_answer : Option Post → Post → Put
put_answer None post = Stored
put_answer (Some kept) post = if bytes_eq kept.content post.content then Same post else Other post

-- the log that follows where a slot holds this
abbrev pub filled_if : Option Post → Log → Log → Log
filled_if None log with_post = with_post
filled_if (Some kept) log with_post = log

-- the log that follows: one empty slot is filled, or nothing changes
abbrev pub put_log : Log → Slot → Post → Log
put_log log slot post = filled_if (kept_in log slot) log (filled log slot post)
