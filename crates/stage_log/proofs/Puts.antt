-- What a post does to a log.
use Rattle.std.proofs.Common.{◌≡◌, ℕ, true, false, Option, Some, None, ap, sym, ◌∙◌}
use Rattle.std.specs.Prelude.{bytes_eq}
use Rattle.std.specs.List.{slice_set}
use Rattle.std.proofs.lemmas.Bool.{cond-true, cond-false}
use Rattle.phase_message.specs.declared.post.Post.{Post}
use Rattle.phase_message.specs.declared.stage.Slot.{Slot}
use Rattle.phase_message.specs.Slots.{slot_number}
use Rattle.stage_log.specs.declared.log.Put.TheVariants.{Same, Other}
use Rattle.stage_log.specs.Table.{Log, kept_in, filled}
use Rattle.stage_log.specs.Put.{put_answer, put_log, filled_if}

-- an empty slot is filled
pub put_log-empty : (log : Log) (slot : Slot) (post : Post) (number : ℕ) → kept_in log slot ≡ None
    → number ≡ slot_number log.shape slot.stage slot.sender
    → record { shape = log.shape; posts = slice_set log.posts number (Some post) } ≡ put_log log slot post
put_log-empty log slot post number none e =
    ap (λ (k : ℕ). record { shape = log.shape; posts = slice_set log.posts k (Some post) }) e
    ∙ ap (λ (o : Option Post). filled_if o log (filled log slot post)) (sym none)

-- a slot that holds a post keeps it
pub put_log-full : (log : Log) (slot : Slot) (post kept : Post) → kept_in log slot ≡ Some kept → log ≡ put_log log slot post
put_log-full log slot post kept some = ap (λ (o : Option Post). filled_if o log (filled log slot post)) (sym some)

pub put_answer-same : (o : Option Post) (post kept : Post) → o ≡ Some kept → bytes_eq kept.content post.content ≡ true
    → Same post ≡ put_answer o post
put_answer-same o post kept some e = sym (ap (λ (o : Option Post). put_answer o post) some
    ∙ cond-true (bytes_eq kept.content post.content) (Same post) (Other post) e)

pub put_answer-other : (o : Option Post) (post kept : Post) → o ≡ Some kept → bytes_eq kept.content post.content ≡ false
    → Other post ≡ put_answer o post
put_answer-other o post kept some e = sym (ap (λ (o : Option Post). put_answer o post) some
    ∙ cond-false (bytes_eq kept.content post.content) (Same post) (Other post) e)
