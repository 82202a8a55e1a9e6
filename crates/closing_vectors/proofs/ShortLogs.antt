-- A log stays one of short posts when a short post is put into it.
use Rattle.std.proofs.Common.{◌≡◌, zero, suc, ◌<◌, ◌^◌, length, Option, Some, None, refl, sym, ap, subst, ◌∙◌, inl, inr}
use Rattle.phase_message.specs.declared.post.Post.{Post}
use Rattle.phase_message.specs.declared.stage.Slot.{Slot}
use Rattle.phase_message.specs.Post.{post_spelling}
use Rattle.phase_message.specs.Shape.{Shape}
use Rattle.stage_log.specs.Put.{filled_if, put_log}
use Rattle.stage_log.specs.Table.{Log, empty_log, filled, kept_in}
use Rattle.stage_log.proofs.KeptPosts.{empty-keeps, kept-post}
use Rattle.closing_verdict.specs.Shorts.{KeepsShort}

pub short-empty : (shape : Shape) → KeepsShort (empty_log shape)
short-empty shape = λ stage sender post e. absurd (empty-keeps shape (record { stage = stage; sender = sender }) post e)

pub short-put : (log now : Log) (slot : Slot) (post : Post) → KeepsShort log → length (post_spelling post) < 2 ^ 32
    → now ≡ put_log log slot post → KeepsShort now
short-put log now slot post short here e = subst (λ (l : Log). KeepsShort l) (sym e) (by_kept (kept_in log slot) refl)
  where
    one-more : KeepsShort (filled log slot post)
    one-more stage sender kept e = elim (kept-post log slot (record { stage = stage; sender = sender }) post kept e) [
      | inl old ↦ short stage sender kept old
      | inr new ↦ subst (λ (p : Post). length (post_spelling p) < 2 ^ 32) (sym new) here
    ]

    by_kept : (o : Option Post) → kept_in log slot ≡ o → KeepsShort (put_log log slot post)
    by_kept (Some kept) is = subst (λ (o : Option Post). KeepsShort (filled_if o log (filled log slot post))) (sym is) short
    by_kept None is = subst (λ (o : Option Post). KeepsShort (filled_if o log (filled log slot post))) (sym is) one-more

pub shape-put : (log now : Log) (slot : Slot) (post : Post) → now ≡ put_log log slot post → now.shape ≡ log.shape
shape-put log now slot post e = ap (λ (l : Log). l.shape) e ∙ by_kept (kept_in log slot) refl
  where
    by_kept : (o : Option Post) → kept_in log slot ≡ o → (put_log log slot post).shape ≡ log.shape
    by_kept (Some kept) is = ap (λ (o : Option Post). (filled_if o log (filled log slot post)).shape) is
    by_kept None is = ap (λ (o : Option Post). (filled_if o log (filled log slot post)).shape) is
